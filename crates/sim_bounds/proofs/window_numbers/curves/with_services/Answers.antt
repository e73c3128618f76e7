use Rattle.std.proofs.Common.{subst}
use Rattle.upp_limits.specs.Limits.{joined}
use Rattle.upp_limits.specs.Gathered.{Gathers}
use Rattle.sim_bounds.specs.Gauge.{numbers_to}
use Rattle.sim_bounds.proofs.window_numbers.Loops.{next_part, last_part, held_part, service_parts}
use Rattle.sim_bounds.proofs.window_numbers.curves.with_services.Goals as goal

pub loop-server-preserved : goal.loop-server-preserved
loop-server-preserved c = λ n h.
    let (m, k, w) = c.loop-server.invariant n h in (
      joined m (numbers_to c.args.end c.server-item.result.service),
      c.in-Some.ensures.value m k,
      next_part _ _ (service_parts c.args.end) c.args.servers.now c.loop-server.server-index c.server-item.result m _ c.loop-server-test.true c.server-item.is w,
    )

pub returns-clause-value : goal.returns-clause-value
returns-clause-value c = λ n h.
    let (m, k, w) = c.loop-server.invariant n h in
    subst (Gathers c.loop-server.found) (last_part _ _ (service_parts c.args.end) c.args.servers.now c.loop-server.server-index m _ c.loop-server-test.false w) k

pub returns-in-None-clause-fits : goal.returns-in-None-clause-fits
returns-in-None-clause-fits c = λ z h.
    c.in-None.ensures.fits z (held_part _ _ (service_parts c.args.end) z c.args.end c.args.servers.now c.loop-server.server-index c.server-item.result c.loop-server-test.true c.server-item.is h)
