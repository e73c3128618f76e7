-- The gauge of a call never falls as its window grows, where the shorter window ends on the grid of the longer one. Own
-- choice.
use Rattle.std.specs.Prelude.{◌≤◌}
use Rattle.rational.specs.Rational.{ℚ, ◌≤ℚ◌}
use Rattle.rational.specs.Grid.{Whole}
use Rattle.upp_limits.specs.declared.op_kind.OpKind.{OpKind}
use Rattle.upp_curve.specs.Curve.{SpecCurve}
use Rattle.upp_curve.specs.Curves.{IsCurve}
use Rattle.upp_limits.specs.Gauges.{gauge_over, numbers_over}
use Rattle.upp_limits.specs.Limits.{sizes_of}

-- the grid of a window is that of its times: they and its end are whole multiples of 1 / dt
abbrev pub GaugeNeverFalls : Type 0
GaugeNeverFalls = (op : OpKind) (f g : SpecCurve) (end far : ℚ) → IsCurve f → IsCurve g → end ≤ℚ far
    → Whole (sizes_of far (numbers_over op f g far)).dt end → gauge_over op f g end ≤ gauge_over op f g far
