use Rattle.tree_network.proofs.Turned.{Ordered}
use Rattle.tree_network.proofs.order.order_of.Given as goal

abbrev pub invariant-loop-turn : goal.invariant-loop-turn
invariant-loop-turn l = Ordered l.fn.spots l.ports l.is_done.items l.waiting.items l.order.items l.ready.items l._turn
