use Rattle.std.proofs.Common.{ℕ, ◌<◌}
use Rattle.net_model.specs.net_graph.Waits.{lists_of}
use Rattle.net_model.specs.net_graph.Loops.{IsAwaited}
use Rattle.net_model.proofs.net_graph.cycle.first_awaited.Given as goal

abbrev pub invariant-loop-server : goal.invariant-loop-server
invariant-loop-server l = (a : ℕ) → a < l.server → ¬ (IsAwaited l.is_placed (lists_of l.before) l.waiting a)
