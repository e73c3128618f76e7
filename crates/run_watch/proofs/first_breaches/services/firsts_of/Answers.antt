use Rattle.run_watch.proofs.first_breaches.Routed.{firsts_are}
use Rattle.run_watch.proofs.first_breaches.services.firsts_of.Goals as goal

pub returns : goal.returns
returns c =
    firsts_are c.args.net.now c.loop-number.firsts.items c.loop-number.number c.flow_count-count.result c.flow_count-count.ensures.kept c.flow_count-count.ensures.count c.loop-number-test.false c.loop-number.auto.number-end
    c.loop-number.invariant.0 c.loop-number.invariant.1
