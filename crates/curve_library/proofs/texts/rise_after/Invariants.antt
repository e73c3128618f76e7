use Rattle.std.proofs.Common.{◌↔◌, drop}
use Rattle.upp_curve.specs.affine_segment.Pieces.{RisesFrom}
use Rattle.curve_library.specs.Listed.{text_pieces}
use Rattle.curve_library.proofs.texts.rise_after.Given as goal

abbrev pub invariant-loop-p : goal.invariant-loop-p
invariant-loop-p l = RisesFrom l.fn.first (text_pieces l.rest) ↔ RisesFrom l.last (text_pieces (drop l.p-index l.rest))
