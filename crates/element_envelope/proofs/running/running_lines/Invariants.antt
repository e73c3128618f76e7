use Rattle.std.specs.Prelude.{◌≡◌, None}
use Rattle.std.proofs.Common.{◌++◌, drop}
use Rattle.rational.specs.Rational.{ℚ}
use Rattle.rational.specs.declared.Extended.TheVariants.{Inf}
use Rattle.upp_curve.specs.affine_segment.Pieces.{Each}
use Rattle.upp_limits.specs.Limits.{Sizes}
use Rattle.upp_normal.specs.Operand.{AreLimited, OperandLine, OperandLineAt}
use Rattle.element_envelope.specs.ConvolutionWindows.{WindowPiece}
use Rattle.element_envelope.specs.RunningLines.{line_from, running}
use Rattle.element_envelope.specs.SumWindows.{SumLineAt}
use Rattle.element_envelope.proofs.running.running_lines.Given as goal

-- what is put, and what runs on, are all; the lowest stands, and the line before is a window's
abbrev pub invariant-loop-q : goal.invariant-loop-q
invariant-loop-q l =
    (l.lines.items ++ running l.line l.low l.before (drop l.q-index l.pieces) ≡ running l.line Inf None l.pieces)
    × ((z : Sizes) (end : ℚ) → AreLimited z end → OperandLine z l.line → Each (WindowPiece z end) l.pieces → SumLineAt z (line_from l.line.slope l.low) × OperandLineAt z l.before)
