use Rattle.tree_network.proofs.Rings.{one_ring, told_rings_are_rings}
use Rattle.tree_network.proofs.order.one_ring_is_told.Goals as goal

pub returns : goal.returns
returns c = record { one = one_ring; ring = told_rings_are_rings }
