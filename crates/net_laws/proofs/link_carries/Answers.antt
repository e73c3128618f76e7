use Rattle.net_laws.proofs.link_carries.Goals as goal
use Rattle.net_laws.proofs.PathRuns

pub returns : goal.returns
returns c = PathRuns.link_carries
