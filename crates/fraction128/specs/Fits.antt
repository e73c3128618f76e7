-- When the numbers of a step of arithmetic fit, and the step that did not.
use Rattle.rational.specs.Rational.{ℚ}
use Rattle.fraction128.specs.declared.fault.Op.{Op}
use Rattle.fraction128.specs.declared.fault.Wide.{Wide}

-- the refusal of one step: its operator and its operands
abbrev pub wide_step : Op → ℚ → ℚ → Wide
wide_step op x y = record { op = op; a = x; b = y }
