use Rattle.net_model.specs.net_graph.Waits.{lists_of, AllLosePlaced, AreBusy}
use Rattle.net_model.proofs.net_graph.waits.first_idle.Given as goal

abbrev pub invariant-loop-server : goal.invariant-loop-server
invariant-loop-server l = record {
  lost : AllLosePlaced l.is_placed (lists_of l.initial.before.items) (lists_of l.before.items);
  busy : AreBusy l.is_placed (lists_of l.before.items) l.server;
}
