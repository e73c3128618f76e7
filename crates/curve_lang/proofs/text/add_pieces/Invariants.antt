use Rattle.std.proofs.Common.{◌≡◌, ◌++◌, drop}
use Rattle.std.specs.List.{flat_map}
use Rattle.curve_lang.specs.Texts.{piece_text}
use Rattle.curve_lang.proofs.text.add_pieces.Given as goal

-- with the pieces that are left it is the text of all
abbrev pub invariant-loop-piece : goal.invariant-loop-piece
invariant-loop-piece l = l.out.items ++ flat_map piece_text (drop l.piece-index l.pieces) ≡ l.fn.out.items ++ flat_map piece_text l.pieces
