use Rattle.residuals.proofs.fifo.fifo_serves.Goals as goal
use Rattle.residuals.proofs.fifo.FifoClasses

pub returns : goal.returns
returns c = FifoClasses.fifo_serves
