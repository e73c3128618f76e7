use Rattle.std.proofs.Common.{ap}
use Rattle.std.specs.Option.{option_map}
use Rattle.port_bounds.proofs.Queues.{adding_more, adding_unknown, adding_end}
use Rattle.port_bounds.proofs.arrivals.add_parts.Goals as goal

pub returns-in-None : goal.returns-in-None
returns-in-None c =
    adding_unknown c.args.queues.now c.loop-queue.queue-index _ c.args.all.now.items c.loop-queue.all.items c.loop-queue-test.true c.queue-item.is
    (ap (option_map (λ v. v.items)) c.in-None.is) c.loop-queue.invariant

pub loop-queue-preserved : goal.loop-queue-preserved
loop-queue-preserved c =
    let added = c.in_ok-extend_from_slice-in-Some.ensures.items in
    rw (added, c.deref.ensures.value) (adding_more c.args.queues.now c.loop-queue.queue-index _ c.in-Some.parts.items c.args.all.now.items c.loop-queue.all.items
    c.loop-queue-test.true c.queue-item.is (ap (option_map (λ v. v.items)) c.in-Some.is) c.loop-queue.invariant)

pub returns : goal.returns
returns c = adding_end c.args.queues.now c.loop-queue.queue-index c.args.all.now.items c.loop-queue.all.items c.loop-queue-test.false c.loop-queue.invariant
