use Rattle.std.proofs.Common.{◌∙◌, ap}
use Rattle.simulator.proofs.packet_sim.SortedStalls.{more_stalls, same_stalls}
use Rattle.simulator.proofs.packet_sim.making.stalls_of.Goals as goal
use Rattle.simulator.proofs.packet_sim.making.stalls_of.Goals.{then-stall-server+in_ok-push, else-stall-server}

pub loop-stall-preserved : goal.loop-stall-preserved
loop-stall-preserved c = elim c.if-stall-server.branch [
  | then-stall-server+in_ok-push w ↦
      more_stalls c.args.server c.args.stalls.now c.loop-stall.stall-index c.stall-item.result c.loop-stall.spans.items c.if-stall-server.spans.items
      c.loop-stall-test.true c.stall-item.is c.loop-stall.invariant w.if-stall-server.true (ap (λ v. v.items) w.spans-is ∙ w.in_ok-push.ensures.items)
  | else-stall-server w ↦
      same_stalls c.args.server c.args.stalls.now c.loop-stall.stall-index c.stall-item.result c.loop-stall.spans.items c.if-stall-server.spans.items
      c.loop-stall-test.true c.stall-item.is c.loop-stall.invariant w.if-stall-server.false (ap (λ v. v.items) w.spans-is)
]
