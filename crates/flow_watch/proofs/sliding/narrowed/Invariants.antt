use Rattle.std.proofs.Common.{◌-◌, ◌≤◌}
use Rattle.flow_watch.specs.Flows.{IsNarrow}
use Rattle.flow_watch.proofs.sliding.narrowed.Given as goal

abbrev pub decreases-loop-first : goal.decreases-loop-first
decreases-loop-first l = l.last - l.first

abbrev pub invariant-loop-first : goal.invariant-loop-first
invariant-loop-first l = (l.bits ≤ l.wide.bits) × IsNarrow l.end l.entries l.last l.first l.bits
