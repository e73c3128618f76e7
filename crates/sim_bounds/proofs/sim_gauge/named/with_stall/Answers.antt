use Rattle.std.proofs.Common.{subst}
use Rattle.upp_limits.specs.Limits.{joined, time_alone}
use Rattle.upp_limits.specs.Gathered.{Gathers}
use Rattle.upp_limits.proofs.JoinedNumbers.{joined_assoc}
use Rattle.sim_bounds.proofs.sim_gauge.named.with_stall.Goals as goal

pub returns : goal.returns
returns c = λ n h.
    let a = time_alone c.args.stall.now.start in
    let b = time_alone c.args.stall.now.end in
    subst (λ m. Gathers c.with_time-2.result m) (joined_assoc n a b) (c.with_time-2.ensures (joined n a) (c.with_time.ensures n h))
