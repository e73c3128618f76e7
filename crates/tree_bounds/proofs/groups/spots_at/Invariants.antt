use Rattle.std.proofs.Common.{◌≡◌, map, take}
use Rattle.tree_network.specs.Spots.{spot_at}
use Rattle.tree_bounds.proofs.groups.spots_at.Given as goal

abbrev pub invariant-loop-n : goal.invariant-loop-n
invariant-loop-n l = l.found.items ≡ map (λ n. spot_at l.spots n) (take l.n-index l.numbers)
