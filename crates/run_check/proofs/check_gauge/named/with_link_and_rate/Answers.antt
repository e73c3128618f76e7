use Rattle.std.proofs.Common.{subst}
use Rattle.upp_limits.specs.Limits.{joined, time_alone}
use Rattle.upp_limits.specs.Gathered.{Gathers}
use Rattle.net_model.specs.Views.{server_of}
use Rattle.run_check.proofs.check_gauge.Loops.{server_joined}
use Rattle.run_check.proofs.check_gauge.named.with_link_and_rate.Goals as goal

pub returns : goal.returns
returns c = λ n h.
    let x = c.args.server.now in
    subst (λ m. Gathers c.with_slope.result m) (server_joined n (server_of x)) (c.with_slope.ensures (joined n (time_alone x.link)) (c.with_time.ensures n h))
