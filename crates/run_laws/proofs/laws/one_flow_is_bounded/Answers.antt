use Rattle.run_laws.proofs.laws.one_flow_is_bounded.Goals as goal
use Rattle.run_laws.proofs.OneFlow

pub returns : goal.returns
returns c = OneFlow.one_flow_is_bounded
