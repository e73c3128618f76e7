use Rattle.run_laws.proofs.laws.several_flows_are_bounded.Goals as goal
use Rattle.run_laws.proofs.SeveralFlows

pub returns : goal.returns
returns c = SeveralFlows.several_flows_are_bounded
