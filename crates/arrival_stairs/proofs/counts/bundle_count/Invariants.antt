use Rattle.std.proofs.Common.{◌≡◌, ◌≤◌, ◌+◌, take}
use Rattle.std.specs.List.{sum_by}
use Rattle.arrival_stairs.specs.Jumps.{stair_jump_count}
use Rattle.arrival_stairs.proofs.counts.bundle_count.Given as goal

abbrev pub invariant-loop-stair : goal.invariant-loop-stair
invariant-loop-stair l = record {
  is : l.all ≡ l.before + sum_by (stair_jump_count l.end) (take l.stair-index l.stair-items);
  few : l.all ≤ 4096;
}
