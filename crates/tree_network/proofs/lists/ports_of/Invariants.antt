use Rattle.std.proofs.Common.{◌≡◌, take}
use Rattle.tree_network.specs.Lists.{ports_in}
use Rattle.tree_network.proofs.lists.ports_of.Given as goal

abbrev pub invariant-loop-spot : goal.invariant-loop-spot
invariant-loop-spot l = l.ports.items ≡ ports_in (take l.spot-index l.spots)
