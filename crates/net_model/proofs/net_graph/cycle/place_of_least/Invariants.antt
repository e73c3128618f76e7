use Rattle.std.proofs.Common.{ℕ, ◌<◌, ◌≤◌, get_or, length}
use Rattle.net_model.proofs.net_graph.cycle.place_of_least.Given as goal

abbrev pub invariant-loop-place : goal.invariant-loop-place
invariant-loop-place l = record {
  within : l.least < length l.servers;
  least : (k : ℕ) → k < l.place → get_or l.servers l.least 0 ≤ get_or l.servers k 0;
}
