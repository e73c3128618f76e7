use Rattle.std.proofs.Common.{length, take}
use Rattle.net_model.specs.Views.{flows_of}
use Rattle.net_model.specs.net_graph.Waits.{lists_of, AreBefore}
use Rattle.net_model.proofs.net_graph.waits.servers_before.Given as goal

abbrev pub invariant-loop-flow : goal.invariant-loop-flow
invariant-loop-flow l = AreBefore (flows_of (take l.flow-index l.flow-items)) (length l.fn.net.servers) (lists_of l.before.items)
