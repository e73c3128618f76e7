use Rattle.run_laws.proofs.laws.fifo_queue_is_served.Goals as goal
use Rattle.run_laws.proofs.FifoQueue

pub returns : goal.returns
returns c = FifoQueue.fifo_queue_is_served
