use Rattle.std.proofs.Common.{◌≡◌, ◌≤◌, take}
use Rattle.std.specs.List.{sum_by}
use Rattle.arrival_stairs.specs.Jumps.{bundle_jump_count}
use Rattle.arrival_stairs.proofs.counts.are_few.Given as goal

abbrev pub invariant-loop-bundle : goal.invariant-loop-bundle
invariant-loop-bundle l = record {
  is : l.all ≡ sum_by (bundle_jump_count l.end) (take l.bundle-index l.bundles);
  few : l.all ≤ 4096;
}
