use Rattle.std.proofs.Common.{subst}
use Rattle.upp_limits.specs.Limits.{joined, time_alone}
use Rattle.upp_limits.specs.Gathered.{Gathers}
use Rattle.net_model.specs.Views.{server_of}
use Rattle.net_model.specs.stated_runs.FromTraces.{gate_of}
use Rattle.sim_bounds.specs.Gauge.{gate_times}
use Rattle.sim_bounds.specs.sim_gauge.Named.{times_alone}
use Rattle.sim_bounds.proofs.sim_gauge.Loops.{server_joined}
use Rattle.sim_bounds.proofs.sim_gauge.named.with_server.Goals as goal

pub returns : goal.returns
returns c = λ n h.
    let x = c.args.server.now in
    let a = joined n (time_alone x.link) in
    let b = joined a (times_alone (gate_times (gate_of x.kind))) in
    subst (λ m. Gathers c.with_slope.result m) (server_joined n (server_of x)) (c.with_slope.ensures b (c.with_gate.ensures a (c.with_time.ensures n h)))
