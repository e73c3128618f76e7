use Rattle.std.proofs.Common.{◌≡◌, ◌≤◌, ◌*◌, ℕ, length}
use Rattle.std.specs.List.{flat_map, range_with_len}
use Rattle.net_model.specs.Networks.{Net}
use Rattle.net_cells.specs.QueueParts.{flow_part}
use Rattle.net_cells.proofs.parts.count_part.Given as goal

-- so many of the first flows' hops are there
pub record Counts (net : Net) (s q k total n : ℕ) : Type 0 where
  pub is : total ≡ length (flat_map (flow_part net s q k) (range_with_len 0 n))
  pub few : total ≤ 16 * n

abbrev pub invariant-loop-flow : goal.invariant-loop-flow
invariant-loop-flow l = Counts l.net l.place.0 l.place.1 l.part l.total l.flow
