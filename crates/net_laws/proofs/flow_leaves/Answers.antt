use Rattle.net_laws.proofs.flow_leaves.Goals as goal
use Rattle.net_laws.proofs.Queues

pub returns : goal.returns
returns c = Queues.flow_leaves
