use Rattle.std.proofs.Common.{◌-◌, ◌≤◌, length, drop}
use Rattle.flow_watch.specs.watch_laws.Shorts.{EachPoint}
use Rattle.run_watch.specs.FirstEnds.{IsTooLate}
use Rattle.run_watch.proofs.shorts.far_by.Given as goal

abbrev pub invariant-loop-low : goal.invariant-loop-low
invariant-loop-low l = (l.high ≤ length l.points) × EachPoint (IsTooLate l.rule l.t) (drop l.high l.points)

abbrev pub decreases-loop-low : goal.decreases-loop-low
decreases-loop-low l = l.high - l.low
