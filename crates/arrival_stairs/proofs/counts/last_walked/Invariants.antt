use Rattle.std.proofs.Common.{ℕ, ◌-◌, ◌^◌, ◌<◌, ◌≤◌}
use Rattle.arrival_stairs.specs.Jumps.{jump_count}
use Rattle.arrival_stairs.proofs.counts.last_walked.Given as goal

abbrev pub invariant-loop-low : goal.invariant-loop-low
invariant-loop-low l = record {
  order : l.low ≤ l.high;
  short : l.high < 2 ^ 62;
  few : jump_count l.low l.bundles ≤ 4096;
  many : (n : ℕ) → l.high < n → n < 2 ^ 62 → 4096 < jump_count n l.bundles;
}

abbrev pub decreases-loop-low : goal.decreases-loop-low
decreases-loop-low l = l.high - l.low
