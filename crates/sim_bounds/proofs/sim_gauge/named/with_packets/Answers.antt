use Rattle.std.proofs.Common.{subst}
use Rattle.upp_limits.specs.Limits.{joined}
use Rattle.upp_limits.specs.Gathered.{Gathers}
use Rattle.upp_limits.specs.Limits.{time_alone}
use Rattle.sim_bounds.proofs.window_numbers.Loops.{next_part, last_part}
use Rattle.sim_bounds.proofs.sim_gauge.Loops.{packet_parts}
use Rattle.sim_bounds.proofs.sim_gauge.named.with_packets.Goals as goal

pub loop-packet-preserved : goal.loop-packet-preserved
loop-packet-preserved c = λ n h.
    let (m, k, w) = c.loop-packet.invariant n h in (
      joined m (time_alone c.packet-item.result.time),
      c.with_time-found.ensures m k,
      next_part _ _ packet_parts c.args.packets.now c.loop-packet.packet-index c.packet-item.result m _ c.loop-packet-test.true c.packet-item.is w,
    )

pub returns : goal.returns
returns c = λ n h.
    let (m, k, w) = c.loop-packet.invariant n h in
    subst (Gathers c.loop-packet.found) (last_part _ _ packet_parts c.args.packets.now c.loop-packet.packet-index m _ c.loop-packet-test.false w) k
