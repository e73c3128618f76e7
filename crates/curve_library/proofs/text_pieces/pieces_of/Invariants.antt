use Rattle.std.proofs.Common.{◌≡◌, ◌++◌, drop}
use Rattle.curve_library.specs.Listed.{text_pieces}
use Rattle.curve_library.proofs.text_pieces.pieces_of.Given as goal

abbrev pub invariant-loop-p : goal.invariant-loop-p
invariant-loop-p l = l.pieces.items ++ text_pieces (drop l.p-index l.texts) ≡ text_pieces l.texts
