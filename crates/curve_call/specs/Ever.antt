-- What holds for a period from some number of periods on holds ever after. (Bouillard, Boyer and Le Corronc: of two
-- functions that repeat the one of smaller rate is below the other in the end.)
use Rattle.std.specs.Prelude.{ℕ, pos}
use Rattle.rational.specs.Rational.{ℚ, ◌≤ℚ◌, ◌<ℚ◌, int}
use Rattle.rational.specs.Extended.{Ext, ◌≤ₑ◌, ◌<ₑ◌}
use Rattle.upp_curve.specs.Curve.{SpecCurve, value_at}
use Rattle.upp_curve.specs.Curves.{IsCurve}
use Rattle.upp_curve.specs.Steady.{steady, rate, IsWholePeriods}
use Rattle.upp_limits.specs.Periods.{periods_after}
use Rattle.upp_limits.specs.Windows.{IsSlowerBelow}

-- f is at most g at each time from `from` on
abbrev pub IsBelowFrom : (ℚ → Ext) → (ℚ → Ext) → ℚ → Type 0
IsBelowFrom f g from = (t : ℚ) → from ≤ℚ t → f t ≤ₑ g t

-- the slower of two curves is at most the faster
pub record IsSlowerBelowFrom (f g : SpecCurve) (from : ℚ) : Type 0 where
  pub first : rate f <ₑ rate g → IsBelowFrom (value_at f) (value_at g) from
  pub second : rate g <ₑ rate f → IsBelowFrom (value_at g) (value_at f) from

-- a curve repeats from `from` on with the period d
pub record RepeatsBy (from d : ℚ) (c : SpecCurve) : Type 0 where
  pub curve : IsCurve c
  pub steady_by : steady c ≤ℚ from
  pub periods : IsWholePeriods c.tail d

-- where k periods are enough, the slower curve is nowhere above the faster from then on
abbrev pub BelowEverAfter : Type 0
BelowEverAfter =
    (f g : SpecCurve) (from d : ℚ) (k : ℕ) → int (pos 0) <ℚ d → RepeatsBy from d f → RepeatsBy from d g
    → IsSlowerBelow (value_at f) (value_at g) (rate f) (rate g) (periods_after from k d) d
    → IsSlowerBelowFrom f g (periods_after from k d)
