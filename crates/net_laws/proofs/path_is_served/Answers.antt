use Rattle.net_laws.proofs.path_is_served.Goals as goal
use Rattle.net_laws.proofs.PathRuns

pub returns : goal.returns
returns c = PathRuns.path_is_served
