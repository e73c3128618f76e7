use Rattle.std.proofs.Common.{arith}
use Rattle.port_bounds.proofs.Queues.{frames_more, frames_end, frames_fit}
use Rattle.port_bounds.proofs.arrivals.longest_together.Goals as goal

pub overflow_add-sum : goal.overflow_add-sum
overflow_add-sum c =
    let fits = frames_fit c.args.queues.now c.loop-queue.queue-index _ c.loop-queue.sum c.requires c.loop-queue-test.true c.queue-item.is c.loop-queue.invariant in
    omega (arith, fits)

pub loop-queue-preserved : goal.loop-queue-preserved
loop-queue-preserved c = frames_more c.args.queues.now c.loop-queue.queue-index _ c.loop-queue.sum c.loop-queue-test.true c.queue-item.is c.loop-queue.invariant

pub returns : goal.returns
returns c = frames_end c.args.queues.now c.loop-queue.queue-index c.loop-queue.sum c.loop-queue-test.false c.loop-queue.invariant
