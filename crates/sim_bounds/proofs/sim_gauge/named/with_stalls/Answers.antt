use Rattle.std.proofs.Common.{subst}
use Rattle.upp_limits.specs.Limits.{joined}
use Rattle.upp_limits.specs.Gathered.{Gathers}
use Rattle.sim_bounds.specs.Gauge.{stall_times}
use Rattle.sim_bounds.specs.sim_gauge.Named.{times_alone}
use Rattle.sim_bounds.proofs.window_numbers.Loops.{next_part, last_part}
use Rattle.sim_bounds.proofs.sim_gauge.Loops.{stall_parts}
use Rattle.sim_bounds.proofs.sim_gauge.named.with_stalls.Goals as goal

pub loop-stall-preserved : goal.loop-stall-preserved
loop-stall-preserved c = λ n h.
    let (m, k, w) = c.loop-stall.invariant n h in (
      joined m (times_alone (stall_times c.stall-item.result)),
      c.with_stall-found.ensures m k,
      next_part _ _ stall_parts c.args.stalls.now c.loop-stall.stall-index c.stall-item.result m _ c.loop-stall-test.true c.stall-item.is w,
    )

pub returns : goal.returns
returns c = λ n h.
    let (m, k, w) = c.loop-stall.invariant n h in
    subst (Gathers c.loop-stall.found) (last_part _ _ stall_parts c.args.stalls.now c.loop-stall.stall-index m _ c.loop-stall-test.false w) k
