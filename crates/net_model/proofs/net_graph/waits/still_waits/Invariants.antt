use Rattle.std.proofs.Common.{vec_len}
use Rattle.net_model.specs.net_graph.Waits.{LosesPlaced}
use Rattle.net_model.proofs.net_graph.waits.still_waits.Given as goal

abbrev pub invariant-loop-last : goal.invariant-loop-last
invariant-loop-last l = LosesPlaced l.is_placed l.initial.list.items l.list.items

abbrev pub decreases-loop-last : goal.decreases-loop-last
decreases-loop-last l = vec_len l.list
