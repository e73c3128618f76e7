use Rattle.std.proofs.Common.{List, ◌++◌, drop}
use Rattle.std.specs.Prelude.{None}
use Rattle.rational.specs.Rational.{ℚ}
use Rattle.upp_curve.specs.declared.affine_segment.line.Piece.{Piece}
use Rattle.upp_curve.specs.affine_segment.Pieces.{Each}
use Rattle.upp_limits.specs.Limits.{Sizes}
use Rattle.upp_normal.specs.Operand.{OperandLineAt}
use Rattle.element_envelope.specs.ConvolutionWindows.{WindowPiece}
use Rattle.element_envelope.specs.Turnings.{IsThinned}
use Rattle.element_envelope.proofs.starts.turning_starts.Given as goal

-- what is kept, with the rest thinned, is all of them thinned; and the line before the rest is a window's
abbrev pub invariant-loop-p : goal.invariant-loop-p
invariant-loop-p l =
    ((qs : List Piece) → IsThinned l.before (drop l.p-index l.pieces) qs → IsThinned None l.pieces (l.kept.items ++ qs))
    × ((z : Sizes) (end : ℚ) → Each (WindowPiece z end) l.pieces → OperandLineAt z l.before)
