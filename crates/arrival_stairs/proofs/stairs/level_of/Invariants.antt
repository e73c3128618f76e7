use Rattle.std.proofs.Common.{◌≡◌, take}
use Rattle.std.specs.List.{sum_by}
use Rattle.arrival_stairs.specs.Stairs.{stair_level}
use Rattle.arrival_stairs.proofs.stairs.level_of.Given as goal

abbrev pub invariant-loop-stair : goal.invariant-loop-stair
invariant-loop-stair l = l.level ≡ sum_by (stair_level 0) (take l.stair-index l.stair-items)
