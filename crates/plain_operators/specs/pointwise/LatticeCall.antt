-- A call on two curves that both repeat from a start on, whose window ends some periods later. Own choice.
use Rattle.std.specs.Prelude.{◌≡◌, ℕ, ◌+◌, pos}
use Rattle.rational.specs.Rational.{ℚ, ◌≤ℚ◌, ◌<ℚ◌, int}
use Rattle.rational.specs.Grid.{Whole}
use Rattle.upp_curve.specs.Curve.{SpecCurve, value_at}
use Rattle.upp_curve.specs.Curves.{IsCurve}
use Rattle.upp_curve.specs.Steady.{steady, rate, IsWholePeriods}
use Rattle.upp_limits.specs.Periods.{periods_after}
use Rattle.upp_limits.specs.Windows.{IsSlowerBelow}
use Rattle.upp_limits.specs.Limits.{Sizes, curve_numbers}
use Rattle.upp_limits.specs.Sized.{Stands, grid_of}
use Rattle.upp_normal.specs.Operand.{AreLimited}
use Rattle.curve_call.specs.declared.frame.Frame.{Frame}

-- both repeat from `start` on with the period, and their numbers up to `end`, k + 1 periods later, have the sizes z
pub record LatticeCall (f g : SpecCurve) (start period end : ℚ) (k : ℕ) (z : Sizes) : Type 0 where
  pub first : IsCurve f
  pub second : IsCurve g
  pub limited : AreLimited z end
  pub left : Stands z (curve_numbers end f)
  pub right : Stands z (curve_numbers end g)
  pub start_whole : Whole z.dt start
  pub nonneg : int (pos 0) ≤ℚ start
  pub period_whole : Whole z.dt period
  pub above : int (pos 0) <ℚ period
  pub left_steady : steady f ≤ℚ start
  pub right_steady : steady g ≤ℚ start
  pub left_periods : IsWholePeriods f.tail period
  pub right_periods : IsWholePeriods g.tail period
  pub ends : end ≡ periods_after start (k + 1) period

-- such a call within both limits, where k periods are enough: from then on the slower curve is nowhere above the faster
pub record IsLatticeFrame (f g : SpecCurve) (r : Frame) : Type 0 where
  pub number : ℕ
  pub sizes : Sizes
  pub call : LatticeCall f g r.start r.period r.end number sizes
  pub times : r.times ≡ sizes.dt
  pub values : r.values ≡ grid_of sizes
  pub enough : IsSlowerBelow (value_at f) (value_at g) (rate f) (rate g)
      (periods_after r.start number r.period) r.period
