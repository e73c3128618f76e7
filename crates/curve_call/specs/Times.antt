-- Steps that fit on the way to the times of a call. Own choice.
use Rattle.std.specs.Prelude.{ℕ, ◌<◌, ◌^◌, pos}
use Rattle.rational.specs.Rational.{ℚ, ◌+ℚ◌, ◌*ℚ◌, int}
use Rattle.rational.specs.Ratio.{IsSmall, SumFits}
use Rattle.upp_curve.specs.Curve.{SpecCurve}
use Rattle.upp_curve.specs.Steady.{rank_of, steady}
use Rattle.upp_limits.specs.Periods.{common_period, both_steady, period_of, period_or}

-- 1 later than the rank
abbrev pub OneLaterFits : SpecCurve → Type 0
OneLaterFits c = SumFits (rank_of c.tail) (int (pos 1))

pub record BothSteadyFit (f g : SpecCurve) : Type 0 where
  pub first : OneLaterFits f
  pub second : OneLaterFits g

pub record MovedFits (f g : SpecCurve) (theta : ℚ) : Type 0 where
  pub both : BothSteadyFit f g
  pub moved : SumFits (steady g) theta

pub record AheadFits (f g : SpecCurve) : Type 0 where
  pub both : BothSteadyFit f g
  pub period : IsSmall (common_period f g)
  pub first : SumFits (steady f) (period_or (common_period f g) (period_of f.tail))
  pub sum : SumFits (steady f +ℚ period_or (common_period f g) (period_of f.tail)) (both_steady f g)

-- n periods after t
pub record PeriodsFit (t : ℚ) (n : ℕ) (d : ℚ) : Type 0 where
  pub few : n < 2 ^ 126
  pub run : IsSmall (int (pos n) *ℚ d)
  pub sum : SumFits t (int (pos n) *ℚ d)
