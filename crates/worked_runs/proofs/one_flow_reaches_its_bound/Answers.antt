use Rattle.worked_runs.proofs.one_flow_reaches_its_bound.Goals as goal
use Rattle.worked_runs.proofs.OneFlow

pub returns : goal.returns
returns c = OneFlow.one_flow_reaches_its_bound
