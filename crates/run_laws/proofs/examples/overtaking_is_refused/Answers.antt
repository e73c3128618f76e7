use Rattle.run_laws.proofs.examples.overtaking_is_refused.Goals as goal
use Rattle.run_laws.proofs.SmallRuns

pub returns : goal.returns
returns c = SmallRuns.overtaking
