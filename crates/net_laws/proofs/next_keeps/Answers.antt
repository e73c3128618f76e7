use Rattle.net_laws.proofs.next_keeps.Goals as goal
use Rattle.net_laws.proofs.PathRuns

pub returns : goal.returns
returns c = PathRuns.next_keeps
