use Rattle.worked_runs.proofs.two_servers_reach_their_bound.Goals as goal
use Rattle.worked_runs.proofs.TwoServers

pub returns : goal.returns
returns c = TwoServers.two_servers_reach_their_bound
