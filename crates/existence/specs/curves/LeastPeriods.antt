-- From which number of periods on the slower of two curves is nowhere above the faster. Own choice.
use Rattle.std.specs.Prelude.{ℕ, Option, MatchOption}
use Rattle.rational.specs.Rational.{ℚ}
use Rattle.upp_curve.specs.Curve.{SpecCurve, value_at}
use Rattle.upp_curve.specs.Steady.{rate}
use Rattle.upp_limits.specs.Limits.{Sizes}
use Rattle.upp_limits.specs.Periods.{periods_after}
use Rattle.upp_limits.specs.Windows.{IsSlowerBelow, IsLeast}
use Rattle.curve_call.specs.Compared.{AreCompared}

-- some number is the least that is enough, or none is
abbrev pub LeastPeriodsExist : Type 0
LeastPeriodsExist =
    (z : Sizes) (from period : ℚ) (f g : SpecCurve) → AreCompared z from period f g
    → let AreEnough = λ (k : ℕ). IsSlowerBelow (value_at f) (value_at g) (rate f) (rate g) (periods_after from k period) period in
    (k : Option ℕ) × MatchOption k ((n : ℕ) → ¬ (AreEnough n)) (IsLeast AreEnough)
