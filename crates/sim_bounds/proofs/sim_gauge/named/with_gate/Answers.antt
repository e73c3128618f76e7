use Rattle.std.proofs.Common.{sym, subst}
use Rattle.upp_limits.specs.Limits.{joined, time_alone}
use Rattle.upp_limits.specs.Gathered.{Gathers}
use Rattle.upp_limits.proofs.JoinedNumbers.{joined_assoc}
use Rattle.net_model.specs.stated_runs.FromTraces.{gate_of}
use Rattle.sim_bounds.specs.Gauge.{gate_times}
use Rattle.sim_bounds.specs.sim_gauge.Named.{times_alone}
use Rattle.sim_bounds.proofs.sim_gauge.named.with_gate.Goals as goal

pub returns-in-Gate : goal.returns-in-Gate
returns-in-Gate c = λ n h.
    let a = time_alone c.in-Gate.cycle in
    let b = time_alone c.in-Gate.slot in
    subst (λ k. Gathers c.with_time-in-Gate.result (joined n (times_alone (gate_times (gate_of k))))) (sym c.in-Gate.is)
    (subst (λ m. Gathers c.with_time-in-Gate.result m) (joined_assoc n a b) (c.with_time-in-Gate.ensures (joined n a) (c.with_time.ensures n h)))
