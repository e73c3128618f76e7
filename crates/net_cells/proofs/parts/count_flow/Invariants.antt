use Rattle.std.proofs.Common.{◌≡◌, ◌≤◌, ℕ, map, length}
use Rattle.std.specs.List.{filter, range_with_len}
use Rattle.net_model.specs.Networks.{Net}
use Rattle.net_cells.specs.Visits.{visit}
use Rattle.net_cells.specs.QueueParts.{is_there}
use Rattle.net_cells.proofs.parts.count_flow.Given as goal

-- so many of the first hops are there
pub record Counts (net : Net) (s q k i count n : ℕ) : Type 0 where
  pub is : count ≡ length (filter (is_there net s q k) (map (visit i) (range_with_len 0 n)))
  pub few : count ≤ n

abbrev pub invariant-loop-hop : goal.invariant-loop-hop
invariant-loop-hop l = Counts l.net l.place.0 l.place.1 l.part l.flow l.count l.hop
