use Rattle.tree_network.proofs.Counted.{Waiting}
use Rattle.tree_network.proofs.order.waiting_at.Given as goal

abbrev pub invariant-loop-spot : goal.invariant-loop-spot
invariant-loop-spot l = Waiting l.spots l.ports l.spot-index l.waiting.items
