use Rattle.std.proofs.Common.{◌-◌, ◌≤◌}
use Rattle.rational.specs.Rational.{◌-ℚ◌, ◌/ℚ◌}
use Rattle.min_plus.specs.WholeUp.{whole_up}
use Rattle.upp_limits.proofs.start_counts.searched_count.Given as goal

abbrev pub invariant-loop-low : goal.invariant-loop-low
invariant-loop-low l = record {
  low : l.low ≤ whole_up ((l.end -ℚ l.x) /ℚ l.period);
  high : whole_up ((l.end -ℚ l.x) /ℚ l.period) ≤ l.high;
}

abbrev pub decreases-loop-low : goal.decreases-loop-low
decreases-loop-low l = l.high - l.low
