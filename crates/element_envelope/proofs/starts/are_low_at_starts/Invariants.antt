use Rattle.std.proofs.Common.{drop}
use Rattle.rational.specs.Rational.{ℚ}
use Rattle.upp_curve.specs.affine_segment.Pieces.{Each}
use Rattle.upp_limits.specs.Limits.{Sizes}
use Rattle.upp_normal.specs.Operand.{OperandLineAt}
use Rattle.element_envelope.specs.ConvolutionWindows.{WindowPiece}
use Rattle.element_envelope.specs.Copies.{LowAfter, LowAtStarts}
use Rattle.element_envelope.proofs.starts.are_low_at_starts.Given as goal

-- the rest being low after the line before it, all are; and that line is a window's
abbrev pub invariant-loop-p : goal.invariant-loop-p
invariant-loop-p l =
    (LowAfter l.before (drop l.p-index l.pieces) → LowAtStarts l.pieces)
    × ((z : Sizes) (end : ℚ) → Each (WindowPiece z end) l.pieces → OperandLineAt z l.before)
