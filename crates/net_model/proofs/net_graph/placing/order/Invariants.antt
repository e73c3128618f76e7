use Rattle.std.proofs.Common.{◌≡◌, length}
use Rattle.net_model.specs.net_graph.Waits.{lists_of}
use Rattle.net_model.proofs.net_graph.Turns.{Turned}
use Rattle.net_model.proofs.net_graph.placing.order.Given as goal

abbrev pub invariant-loop-turn : goal.invariant-loop-turn
invariant-loop-turn l = record {
  turned : Turned l.fn.net (lists_of l.before.items) l.is_placed.items l.placed.items;
  turns : length l.placed.items ≡ l._turn;
}
