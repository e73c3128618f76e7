use Rattle.std.proofs.Common.{◌-◌, ◌≤◌, length}
use Rattle.arrival_stairs.proofs.horizon.first_down.Given as goal

abbrev pub invariant-loop-low : goal.invariant-loop-low
invariant-loop-low l = record {
  order : l.low ≤ l.high;
  inside : l.high ≤ length l.steps - 1;
}

abbrev pub decreases-loop-low : goal.decreases-loop-low
decreases-loop-low l = l.high - l.low
