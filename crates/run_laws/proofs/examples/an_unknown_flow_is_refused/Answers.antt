use Rattle.run_laws.proofs.examples.an_unknown_flow_is_refused.Goals as goal
use Rattle.run_laws.proofs.CutRuns

pub returns : goal.returns
returns c = CutRuns.unknown_flow
