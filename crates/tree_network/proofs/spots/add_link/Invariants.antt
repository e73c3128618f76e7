use Rattle.std.proofs.Common.{◌≡◌, ◌++◌, length}
use Rattle.tree_network.specs.Spots.{spots_in}
use Rattle.tree_network.proofs.spots.add_link.Given as goal

abbrev pub invariant-loop-place : goal.invariant-loop-place
invariant-loop-place l = l.spots.items ≡ l.initial.spots.items ++ spots_in l.number (length l.initial.spots.items) l.link l.place
