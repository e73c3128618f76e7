use Rattle.tree_network.specs.Lists.{number_at}
use Rattle.tree_network.proofs.Released.{Released}
use Rattle.tree_network.proofs.order.release.Given as goal

abbrev pub invariant-loop-n : goal.invariant-loop-n
invariant-loop-n l = Released (number_at l.spot_ports) l.numbers l.n-index l.initial.waiting.items l.waiting.items l.initial.ready.items l.ready.items
