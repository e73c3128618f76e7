use Rattle.net_model.proofs.net_graph.OneOrders.{one_order}
use Rattle.net_model.proofs.net_graph.laws.one_order.Goals as goal

pub returns : goal.returns
returns c = one_order
