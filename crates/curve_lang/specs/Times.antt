-- A time past a curve's own window. (Own choice.)
use Rattle.std.specs.Prelude.{◌<◌, ◌^◌}
use Rattle.rational.specs.Rational.{ℚ, ◌≤ℚ◌}
use Rattle.upp_curve.specs.Curve.{SpecCurve}
use Rattle.upp_curve.specs.Curves.{IsCurve}
use Rattle.upp_limits.specs.Limits.{own_end}
use Rattle.curve_lang.specs.Finding.{value_gauge}

-- and the gauge of the value there is below the limit
pub record IsPastOwn (c : SpecCurve) (t : ℚ) : Type 0 where
  pub curve : IsCurve c
  pub late : own_end c ≤ℚ t
  pub narrow : value_gauge c t < 2 ^ 120
