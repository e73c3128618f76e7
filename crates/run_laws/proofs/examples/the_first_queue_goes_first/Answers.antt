use Rattle.run_laws.proofs.examples.the_first_queue_goes_first.Goals as goal
use Rattle.run_laws.proofs.SmallRuns

pub returns : goal.returns
returns c = SmallRuns.priorities
