-- A curve whose numbers no call within the limits can hold. Own choice.
use Rattle.rational.specs.Rational.{ℚ}
use Rattle.upp_normal.specs.Ahead.{IsOverBy}
use Rattle.upp_curve.specs.Curve.{SpecCurve}
use Rattle.upp_limits.specs.Limits.{Sizes, curve_numbers}
use Rattle.upp_limits.specs.Sized.{Stands}
use Rattle.upp_normal.specs.Operand.{AreLimited}

-- no sizes of a gauge below 2^120 hold its numbers in a window that goes past its rank, and past its first period
abbrev pub IsHeavy : SpecCurve → Type 0
IsHeavy c = (z : Sizes) (end : ℚ) → AreLimited z end → IsOverBy end c.tail → ¬ (Stands z (curve_numbers end c))
