use Rattle.std.proofs.Common.{◌≡◌, ◌++◌, ◌∷◌, List, drop, map}
use Rattle.upp_curve.specs.declared.affine_segment.line.Piece.{Piece}
use Rattle.upp_normal.specs.Normalising.{past, cut_at}
use Rattle.plain_operators.specs.pointwise.Shifting.{left_piece}
use Rattle.plain_operators.proofs.pointwise.shifts.left_window.Given as goal

abbrev pub invariant-loop-p : goal.invariant-loop-p
invariant-loop-p l =
    (p : Piece) (ps : List Piece) → l.pieces ≡ p ∷ ps
    → l.found.items ++ map (left_piece l.x) (past l.x (drop l.p-index l.pieces)) ≡ left_piece l.x (cut_at p ps l.x) ∷ map (left_piece l.x) (past l.x l.pieces)
