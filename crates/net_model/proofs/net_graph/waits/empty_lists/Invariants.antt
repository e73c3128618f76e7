use Rattle.std.proofs.Common.{◌≡◌, [], replicate}
use Rattle.net_model.specs.net_graph.Waits.{lists_of}
use Rattle.net_model.proofs.net_graph.waits.empty_lists.Given as goal

abbrev pub invariant-loop-server : goal.invariant-loop-server
invariant-loop-server l = lists_of l.lists.items ≡ replicate l._server []
