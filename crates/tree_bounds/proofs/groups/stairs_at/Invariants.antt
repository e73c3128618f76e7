use Rattle.std.proofs.Common.{◌≡◌, map, take}
use Rattle.tree_bounds.specs.Onward.{stair_in}
use Rattle.tree_bounds.proofs.groups.stairs_at.Given as goal

abbrev pub invariant-loop-n : goal.invariant-loop-n
invariant-loop-n l = l.found.items ≡ map (λ n. stair_in l.stairs n) (take l.n-index l.numbers)
