use Rattle.std.proofs.Common.{◌↔◌, drop}
use Rattle.upp_curve.specs.affine_segment.Pieces.{Each}
use Rattle.upp_curve.specs.Shapes.{IsFinitePiece}
use Rattle.upp_curve.proofs.shape.are_finite.Given as goal

abbrev pub invariant-loop-p : goal.invariant-loop-p
invariant-loop-p l = Each IsFinitePiece l.pieces ↔ Each IsFinitePiece (drop l.p-index l.pieces)
