use Rattle.net_model.proofs.net_graph.Forward.{goes_forward}
use Rattle.net_model.proofs.net_graph.laws.order_goes_forward.Goals as goal

pub returns : goal.returns
returns c = goes_forward
