use Rattle.std.proofs.Common.{◌≡◌, length}
use Rattle.net_model.specs.net_graph.Waits.{lists_of}
use Rattle.net_model.specs.net_graph.Loops.{AreFirsts}
use Rattle.net_model.proofs.net_graph.cycle.firsts_awaited.Given as goal

abbrev pub invariant-loop-server : goal.invariant-loop-server
invariant-loop-server l = record {
  count : length l.firsts.items ≡ l.server;
  are : AreFirsts l.is_placed (lists_of l.before) l.firsts.items;
}
