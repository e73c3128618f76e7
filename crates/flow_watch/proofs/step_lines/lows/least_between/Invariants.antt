use Rattle.std.proofs.Common.{◌-◌}
use Rattle.flow_watch.proofs.step_lines.LowTrees.{IsLeastSo}
use Rattle.flow_watch.proofs.step_lines.lows.least_between.Given as goal

abbrev pub invariant-loop-from : goal.invariant-loop-from
invariant-loop-from l = IsLeastSo l.nodes l.low l.high l.from l.upto l.least

abbrev pub decreases-loop-from : goal.decreases-loop-from
decreases-loop-from l = l.upto - l.from
