use Rattle.net_laws.proofs.none_arrives_twice.Goals as goal
use Rattle.net_laws.proofs.PathRuns

pub returns : goal.returns
returns c = PathRuns.none_arrives_twice
