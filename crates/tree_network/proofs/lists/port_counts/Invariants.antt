use Rattle.std.proofs.Common.{◌≡◌, length}
use Rattle.tree_network.proofs.lists.port_counts.Given as goal

abbrev pub invariant-loop-spot : goal.invariant-loop-spot
invariant-loop-spot l = length l.counts.items ≡ l.ports
