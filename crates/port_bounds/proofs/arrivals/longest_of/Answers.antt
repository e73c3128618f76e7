use Rattle.port_bounds.proofs.Queues.{longest_more, longest_end}
use Rattle.port_bounds.proofs.arrivals.longest_of.Goals as goal

pub loop-queue-preserved : goal.loop-queue-preserved
loop-queue-preserved c =
    let queues = c.args.queues.now in
    let i = c.loop-queue.queue-index in
    let more = longest_more queues i _ c.loop-queue.longest c.loop-queue-test.true c.queue-item.is c.loop-queue.invariant in
    rw c.greater-longest.ensures more

pub returns : goal.returns
returns c = longest_end c.args.queues.now c.loop-queue.queue-index c.loop-queue.longest c.loop-queue-test.false c.loop-queue.invariant
