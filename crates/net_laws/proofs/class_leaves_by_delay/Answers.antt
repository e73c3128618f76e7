use Rattle.net_laws.proofs.class_leaves_by_delay.Goals as goal
use Rattle.net_laws.proofs.PathRuns

pub returns : goal.returns
returns c = PathRuns.class_leaves_by_delay
