use Rattle.std.proofs.Common.{◌≡◌, ◌≤◌, ℕ, List, eqb, get_or, map, length}
use Rattle.std.specs.Prelude.{◌&&◌}
use Rattle.std.specs.List.{filter, range_with_len}
use Rattle.net_cells.specs.Visits.{Visit, visit}
use Rattle.net_cells.proofs.effort.count_hops.Given as goal

-- so many of the first hops are in the queue
pub record Counts (way lanes : List ℕ) (s q count n : ℕ) : Type 0 where
  pub is : (i : ℕ) → count ≡ length
      (filter (λ (v : Visit). eqb (get_or way v.hop 0) s && eqb (get_or lanes v.hop 0) q)
      (map (visit i) (range_with_len 0 n)))
  pub few : count ≤ n

abbrev pub invariant-loop-hop : goal.invariant-loop-hop
invariant-loop-hop l = Counts l.path l.lanes l.server l.queue l.count l.hop
