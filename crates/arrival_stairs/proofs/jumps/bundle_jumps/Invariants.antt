use Rattle.std.proofs.Common.{take}
use Rattle.std.specs.List.{sum_by}
use Rattle.arrival_stairs.specs.Stairs.{stair_level}
use Rattle.arrival_stairs.specs.Jumps.{AddsJumps}
use Rattle.arrival_stairs.proofs.jumps.bundle_jumps.Given as goal

abbrev pub invariant-loop-stair : goal.invariant-loop-stair
invariant-loop-stair l = AddsJumps (λ n. sum_by (stair_level n) (take l.stair-index l.stair-items)) l.end l.initial.jumps.items l.jumps.items
