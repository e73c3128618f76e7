use Rattle.net_laws.proofs.path_runs_are_multicast.Goals as goal
use Rattle.net_laws.proofs.PathRuns

pub returns : goal.returns
returns c = PathRuns.path_runs_are_multicast
