use Rattle.net_model.proofs.net_graph.OneCycles.{one_cycle}
use Rattle.net_model.proofs.net_graph.laws.one_cycle.Goals as goal

pub returns : goal.returns
returns c = one_cycle
