use Rattle.std.specs.Prelude.{None}
use Rattle.std.proofs.Common.{drop}
use Rattle.rational.specs.Rational.{ℚ}
use Rattle.upp_curve.specs.affine_segment.Pieces.{Each}
use Rattle.upp_limits.specs.Limits.{Sizes}
use Rattle.upp_normal.specs.Operand.{OperandLineAt}
use Rattle.element_envelope.specs.ConvolutionWindows.{WindowPiece}
use Rattle.element_envelope.specs.OneSide.{NeverFalls}
use Rattle.element_envelope.proofs.one_side.never_fall.Given as goal

-- the rest never falling after the line before it, all do not; and that line is a window's
abbrev pub invariant-loop-p : goal.invariant-loop-p
invariant-loop-p l =
    (NeverFalls l.before (drop l.p-index l.pieces) → NeverFalls None l.pieces)
    × ((z : Sizes) (end : ℚ) → Each (WindowPiece z end) l.pieces → OperandLineAt z l.before)
