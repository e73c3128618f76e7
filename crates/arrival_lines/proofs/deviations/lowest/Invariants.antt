use Rattle.std.proofs.Common.{◌-◌}
use Rattle.arrival_lines.proofs.Lowest.{IsBetween}
use Rattle.arrival_lines.proofs.deviations.lowest.Given as goal

abbrev pub invariant-loop-low : goal.invariant-loop-low
invariant-loop-low l = IsBetween l.steps l.slow l.waiting l.rate l.low l.high

abbrev pub decreases-loop-low : goal.decreases-loop-low
decreases-loop-low l = l.high - l.low
