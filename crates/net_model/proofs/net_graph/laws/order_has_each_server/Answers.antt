use Rattle.net_model.proofs.net_graph.Forward.{has_each_server}
use Rattle.net_model.proofs.net_graph.laws.order_has_each_server.Goals as goal

pub returns : goal.returns
returns c = has_each_server
