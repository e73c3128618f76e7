-- Two curves, compared from a time on: how large their numbers are up to a period later. Own choice.
use Rattle.std.specs.Prelude.{ℕ, pos}
use Rattle.rational.specs.Rational.{ℚ, ◌+ℚ◌, ◌≤ℚ◌, ◌<ℚ◌, int}
use Rattle.rational.specs.Grid.{Whole}
use Rattle.rational.specs.Extended.{◌≤ₑ◌}
use Rattle.upp_curve.specs.Curve.{SpecCurve, value_at}
use Rattle.upp_curve.specs.Curves.{IsCurve}
use Rattle.upp_curve.specs.Steady.{steady, rate, IsWholePeriods}
use Rattle.upp_limits.specs.Limits.{Sizes, curve_numbers}
use Rattle.upp_limits.specs.Periods.{periods_after}
use Rattle.upp_limits.specs.Sized.{Stands}
use Rattle.upp_limits.specs.Windows.{IsSlowerBelow}
use Rattle.upp_normal.specs.Operand.{AreLimited}
use Rattle.curve_call.specs.Gaps.{InWindow}

-- a curve that repeats from `from` on with the period d, and whose numbers below from + d have the sizes z
pub record RepeatsIn (z : Sizes) (from d : ℚ) (c : SpecCurve) : Type 0 where
  pub curve : IsCurve c
  pub stands : Stands z (curve_numbers (from +ℚ d) c)
  pub steady_by : steady c ≤ℚ from
  pub periods : IsWholePeriods c.tail d

-- both do, and `from` stands on the grid of times
pub record AreCompared (z : Sizes) (from d : ℚ) (f g : SpecCurve) : Type 0 where
  pub limited : AreLimited z (from +ℚ d)
  pub start : Whole z.dt from
  pub some : int (pos 0) <ℚ d
  pub first : RepeatsIn z from d f
  pub second : RepeatsIn z from d g

-- one does, and `from` stands on the grid of times
pub record IsLookedAt (z : Sizes) (from d : ℚ) (c : SpecCurve) : Type 0 where
  pub limited : AreLimited z (from +ℚ d)
  pub start : Whole z.dt from
  pub some : int (pos 0) <ℚ d
  pub curve : RepeatsIn z from d c

-- after k periods from `from` on, for a period, the one of smaller rate is nowhere above the other
abbrev pub IsEnough : SpecCurve → SpecCurve → ℚ → ℚ → ℕ → Type 0
IsEnough f g from d k = IsSlowerBelow (value_at f) (value_at g) (rate f) (rate g) (periods_after from k d) d

-- at the times of a period from `from` on that are `soon` or later the slower curve is nowhere above the other
abbrev pub IsBelowLate : SpecCurve → SpecCurve → ℚ → ℚ → ℚ → Type 0
IsBelowLate slow fast from d soon =
    (t : ℚ) → InWindow from (from +ℚ d) t → soon ≤ℚ t → value_at slow t ≤ₑ value_at fast t
