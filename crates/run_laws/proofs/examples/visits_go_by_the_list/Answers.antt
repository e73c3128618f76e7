use Rattle.run_laws.proofs.examples.visits_go_by_the_list.Goals as goal
use Rattle.run_laws.proofs.SmallRuns

pub returns : goal.returns
returns c = SmallRuns.quanta
