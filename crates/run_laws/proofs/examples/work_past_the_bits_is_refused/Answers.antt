use Rattle.run_laws.proofs.examples.work_past_the_bits_is_refused.Goals as goal
use Rattle.run_laws.proofs.SmallRuns

pub returns : goal.returns
returns c = SmallRuns.work_past_the_bits
