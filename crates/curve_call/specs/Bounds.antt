-- Two numbers that the least number of periods is between, and what they are made of: what each curve does in one
-- period of its own. (Le Boudec and Thiran: a curve that repeats lies between two lines of its rate.)
use Rattle.std.specs.Prelude.{◌≡◌, ℕ, ◌≤◌}
use Rattle.rational.specs.Rational.{ℚ, ◌+ℚ◌, ◌≤ℚ◌}
use Rattle.rational.specs.declared.Extended.TheVariants.{Fin}
use Rattle.upp_curve.specs.Curve.{SpecCurve, value_at}
use Rattle.upp_limits.specs.Periods.{period_of, period_or}
use Rattle.upp_limits.specs.Limits.{Sizes}
use Rattle.upp_limits.specs.Windows.{IsLeast}
use Rattle.upp_normal.specs.Ahead.{AnswerValue}
use Rattle.curve_call.specs.declared.bounds.Bounds.{Bounds}
use Rattle.curve_call.specs.Gaps.{InWindow, IsWithin}
use Rattle.curve_call.specs.Compared.{AreCompared}

-- there is a least number with P, and it is from b.low to b.high
pub record AreBounds (P : ℕ → Type 0) (b : Bounds) : Type 0 where
  pub number : ℕ
  pub least : IsLeast P number
  pub low : b.low ≤ number
  pub high : number ≤ b.high

-- the period of a curve; d where it has every period
abbrev pub own_or : ℚ → SpecCurve → ℚ
own_or d c = period_or d (period_of c.tail)

-- the times of one such period from `from` on
abbrev pub OwnWindow : ℚ → ℚ → SpecCurve → ℚ → Type 0
OwnWindow from d c = InWindow from (from +ℚ own_or d c)

-- a time from `from` on at which a curve is finite
pub record IsFiniteLate (from : ℚ) (c : SpecCurve) : Type 0 where
  pub at : ℚ
  pub late : from ≤ℚ at
  pub value : ℚ
  pub is : value_at c at ≡ Fin value

-- in the period d from `from` on the slower curve is nowhere more than q above the faster; both are finite somewhere
pub record IsMost (from d : ℚ) (slow fast : SpecCurve) (q : ℚ) : Type 0 where
  pub within : IsWithin (InWindow from (from +ℚ d)) (value_at slow) (value_at fast) q
  pub sizes : (z : Sizes) → AreCompared z from d slow fast → AnswerValue z 15 q
  pub first : IsFiniteLate from slow
  pub second : IsFiniteLate from fast
