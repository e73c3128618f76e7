use Rattle.std.proofs.Common.{◌-◌, length}
use Rattle.net_model.proofs.net_graph.LoopBacks.{Walked}
use Rattle.net_model.proofs.net_graph.cycle.loop_back.Given as goal

abbrev pub invariant-loop-place : goal.invariant-loop-place
invariant-loop-place l = Walked l.firsts l.start l.seen.items l.at

abbrev pub decreases-loop-place : goal.decreases-loop-place
decreases-loop-place l = length l.firsts - length l.seen.items
