use Rattle.std.proofs.Common.{◌≡◌, [], replicate}
use Rattle.tree_network.specs.Lists.{lists_of}
use Rattle.tree_network.proofs.lists.empty_lists.Given as goal

abbrev pub invariant-loop-count : goal.invariant-loop-count
invariant-loop-count l = lists_of l.lists.items ≡ replicate l.count-index []
