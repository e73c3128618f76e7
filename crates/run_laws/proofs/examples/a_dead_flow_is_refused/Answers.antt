use Rattle.run_laws.proofs.examples.a_dead_flow_is_refused.Goals as goal
use Rattle.run_laws.proofs.CutRuns

pub returns : goal.returns
returns c = CutRuns.dead_flow_is_refused
