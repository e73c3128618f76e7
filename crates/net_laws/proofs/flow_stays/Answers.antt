use Rattle.net_laws.proofs.flow_stays.Goals as goal
use Rattle.net_laws.proofs.Queues

pub returns : goal.returns
returns c = Queues.flow_stays
