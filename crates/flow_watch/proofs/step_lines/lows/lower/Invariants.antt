use Rattle.std.proofs.Common.{◌<◌, length}
use Rattle.flow_watch.proofs.step_lines.LowTrees.{IsLowering}
use Rattle.flow_watch.proofs.step_lines.lows.lower.Given as goal

abbrev pub invariant-loop-at : goal.invariant-loop-at
invariant-loop-at l = record { within : l.at < length l.nodes; so_far : IsLowering l.fn.nodes l.nodes l.value l.leaf l.at }

abbrev pub decreases-loop-at : goal.decreases-loop-at
decreases-loop-at l = l.at
