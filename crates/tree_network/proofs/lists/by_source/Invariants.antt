use Rattle.tree_network.specs.Lists.{lists_of}
use Rattle.tree_network.proofs.Those.{BySourceBelow}
use Rattle.tree_network.proofs.lists.by_source.Given as goal

abbrev pub invariant-loop-n : goal.invariant-loop-n
invariant-loop-n l = BySourceBelow l.spots l.sources l.n (lists_of l.lists.items)
