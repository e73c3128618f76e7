use Rattle.std.proofs.Common.{◌≡◌, [], map}
use Rattle.toml.specs.View.{view}
use Rattle.net_draft.specs.Tables.{each, piece_at}
use Rattle.net_draft.proofs.Each.{left}
use Rattle.net_draft.proofs.pieces.each_piece.Given as goal

abbrev pub invariant-loop-entry : goal.invariant-loop-entry
invariant-loop-entry l = each (λ before. piece_at) l.place l.pieces.items (left l.entries l.entry-index) ≡ each (λ before. piece_at) l.place [] (map view l.entries)
