use Rattle.std.proofs.Common.{ℕ, ◌<◌, ◌≤◌}
use Rattle.flow_watch.specs.watch_laws.Entries.{entering}
use Rattle.flow_watch.proofs.flows.first_too_long.Given as goal

abbrev pub invariant-loop-k : goal.invariant-loop-k
invariant-loop-k l = (j : ℕ) → j < l.k → (entering l.entries j).bits ≤ l.longest
