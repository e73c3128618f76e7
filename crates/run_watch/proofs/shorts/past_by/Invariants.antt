use Rattle.std.proofs.Common.{◌-◌, ◌≤◌, length, take}
use Rattle.flow_watch.specs.watch_laws.Marks.{IsPast}
use Rattle.flow_watch.specs.watch_laws.Shorts.{EachPoint}
use Rattle.run_watch.proofs.shorts.past_by.Given as goal

abbrev pub invariant-loop-low : goal.invariant-loop-low
invariant-loop-low l = (l.high ≤ length l.points) × (l.low ≤ length l.points) × EachPoint (λ p. IsPast l.rule.most p.time l.t) (take l.low l.points)

abbrev pub decreases-loop-low : goal.decreases-loop-low
decreases-loop-low l = l.high - l.low
