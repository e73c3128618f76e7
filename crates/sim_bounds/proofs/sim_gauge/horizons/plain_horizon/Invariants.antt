use Rattle.std.proofs.Common.{◌≡◌}
use Rattle.rational.specs.Rational.{◌+ℚ◌}
use Rattle.net_model.specs.stated_runs.FromTraces.{setup_of}
use Rattle.sim_bounds.specs.Horizons.{first_time, sum_below}
use Rattle.sim_bounds.specs.Way.{plain_span}
use Rattle.sim_bounds.proofs.sim_gauge.horizons.plain_horizon.Given as goal

abbrev pub invariant-loop-server : goal.invariant-loop-server
invariant-loop-server l = l.sum ≡ first_time (setup_of l.net l.trace) +ℚ sum_below (plain_span (setup_of l.net l.trace)) l.server
