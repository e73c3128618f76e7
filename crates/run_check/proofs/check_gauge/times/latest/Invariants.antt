use Rattle.std.proofs.Common.{◌≡◌, drop}
use Rattle.sim_bounds.specs.Horizons.{latest_of}
use Rattle.run_check.specs.check_gauge.Runs.{step_end}
use Rattle.run_check.proofs.check_gauge.times.latest.Given as goal

-- that of the steps from number i on
abbrev pub invariant-loop-i : goal.invariant-loop-i
invariant-loop-i l = l.latest ≡ latest_of step_end (drop l.i l.steps)
