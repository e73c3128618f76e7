use Rattle.std.proofs.Common.{◌≡◌, take}
use Rattle.tree_bounds.specs.Bunches.{stairs_among}
use Rattle.tree_bounds.specs.Onward.{stair_in}
use Rattle.tree_bounds.proofs.arriving.stairs_of_spots.Given as goal

abbrev pub invariant-loop-n : goal.invariant-loop-n
invariant-loop-n l = l.found.items ≡ stairs_among (λ n. stair_in l.stairs n) (take l.n-index l.numbers)
