use Rattle.std.proofs.Common.{◌≡◌, ◌≤◌, ◌*◌, ℕ, length}
use Rattle.std.specs.List.{range_with_len}
use Rattle.net_model.specs.Networks.{Net}
use Rattle.net_cells.specs.QueueParts.{by_parts, links_among}
use Rattle.net_cells.proofs.parts.parts_work.Given as goal

-- so many hops are in the first parts, and so many of these come over a link
pub record Counts (net : Net) (s q terms links n : ℕ) : Type 0 where
  pub is : terms ≡ length (by_parts net s q (range_with_len 0 n))
  pub over : links ≡ links_among net s q (range_with_len 0 n)
  pub few : terms ≤ 4096 * n
  pub fewer : links ≤ n

abbrev pub invariant-loop-part : goal.invariant-loop-part
invariant-loop-part l = Counts l.net l.server l.queue l.terms l.links l.part
