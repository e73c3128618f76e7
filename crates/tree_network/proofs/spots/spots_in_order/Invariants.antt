use Rattle.std.proofs.Common.{◌≡◌}
use Rattle.tree_network.specs.Spots.{spots_below}
use Rattle.tree_network.proofs.spots.spots_in_order.Given as goal

abbrev pub invariant-loop-number : goal.invariant-loop-number
invariant-loop-number l = l.spots.items ≡ spots_below l.network l.number
