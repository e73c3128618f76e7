use Rattle.std.proofs.Common.{subst}
use Rattle.upp_limits.specs.Limits.{joined}
use Rattle.upp_limits.specs.Gathered.{Gathers}
use Rattle.net_model.specs.Views.{server_of}
use Rattle.sim_bounds.proofs.window_numbers.Loops.{next_part, last_part}
use Rattle.run_check.specs.check_gauge.Named.{link_and_rate}
use Rattle.run_check.proofs.check_gauge.Loops.{server_parts}
use Rattle.run_check.proofs.check_gauge.named.with_links_and_rates.Goals as goal

pub loop-server-preserved : goal.loop-server-preserved
loop-server-preserved c = λ n h.
    let (m, k, w) = c.loop-server.invariant n h in (
      joined m (link_and_rate (server_of c.server-item.result)),
      c.with_link_and_rate-found.ensures m k,
      next_part _ _ server_parts c.args.servers.now c.loop-server.server-index c.server-item.result m _ c.loop-server-test.true c.server-item.is w,
    )

pub returns : goal.returns
returns c = λ n h.
    let (m, k, w) = c.loop-server.invariant n h in
    subst (Gathers c.loop-server.found) (last_part _ _ server_parts c.args.servers.now c.loop-server.server-index m _ c.loop-server-test.false w) k
