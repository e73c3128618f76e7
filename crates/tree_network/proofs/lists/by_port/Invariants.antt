use Rattle.tree_network.specs.Lists.{lists_of, AreByPort}
use Rattle.tree_network.proofs.lists.by_port.Given as goal

abbrev pub invariant-loop-numbers : goal.invariant-loop-numbers
invariant-loop-numbers l = AreByPort l.spots l.ports l.numbers-index (lists_of l.lists.items)
