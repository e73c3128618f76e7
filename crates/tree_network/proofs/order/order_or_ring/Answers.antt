use Rattle.tree_network.proofs.Rings.{order_or_ring_is_one}
use Rattle.tree_network.proofs.order.order_or_ring.Goals as goal

pub returns : goal.returns
returns c = order_or_ring_is_one
