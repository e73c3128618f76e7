use Rattle.worked_runs.proofs.two_flows_reach_their_bounds.Goals as goal
use Rattle.worked_runs.proofs.TwoFlows

pub returns : goal.returns
returns c = TwoFlows.two_flows_reach_their_bounds
