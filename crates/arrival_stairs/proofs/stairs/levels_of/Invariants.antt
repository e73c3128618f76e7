use Rattle.std.proofs.Common.{◌≡◌, take, map}
use Rattle.arrival_stairs.specs.Stairs.{bundle_part}
use Rattle.arrival_stairs.proofs.stairs.levels_of.Given as goal

abbrev pub invariant-loop-bundle : goal.invariant-loop-bundle
invariant-loop-bundle l = l.levels.items ≡ map (bundle_part 0) (take l.bundle-index l.bundles)
