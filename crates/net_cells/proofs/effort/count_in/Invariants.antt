use Rattle.std.proofs.Common.{◌≡◌, ◌≤◌, ◌*◌, ℕ, length}
use Rattle.std.specs.List.{flat_map, range_with_len}
use Rattle.net_model.specs.Networks.{Net}
use Rattle.net_cells.proofs.Counting.{hops_of}
use Rattle.net_cells.proofs.effort.count_in.Given as goal

-- so many of the first flows' hops are in the queue
pub record Counts (net : Net) (s q total n : ℕ) : Type 0 where
  pub is : total ≡ length (flat_map (hops_of net s q) (range_with_len 0 n))
  pub few : total ≤ 16 * n

abbrev pub invariant-loop-number : goal.invariant-loop-number
invariant-loop-number l = Counts l.net l.server l.queue l.total l.number
