-- When a curve by itself is over a limit. Own choice.
use Rattle.std.specs.Prelude.{◌<◌, ◌≤◌, ◌^◌}
use Rattle.upp_limits.specs.declared.own_limits.OverLimit.{OverLimit}
use Rattle.upp_curve.specs.Curve.{SpecCurve}
use Rattle.upp_limits.specs.Limits.{own_gauge, own_tally}
use Rattle.upp_limits.specs.LimitTest.{IsPassed}

-- its own gauge and its own tally are over the limit
abbrev pub IsOver : SpecCurve → OverLimit → Type 0
IsOver c limit = IsPassed (own_gauge c) (own_tally c) limit

pub record IsWithinOwn (c : SpecCurve) : Type 0 where
  pub narrow : own_gauge c < 2 ^ 120
  pub few : own_tally c ≤ 2 ^ 20
