use Rattle.std.proofs.Common.{◌≡◌, ℕ, ◌+◌, ◌-◌, ◌^◌, drop}
use Rattle.std.specs.Prelude.{min, sum_by}
use Rattle.upp_limits.specs.Spans.{number_below}
use Rattle.upp_limits.proofs.counts.count_below.Given as goal

-- the count so far, and of the pieces that are left
abbrev pub invariant-loop-piece : goal.invariant-loop-piece
invariant-loop-piece l =
    (s : ℕ) × (l.total ≡ min s (2 ^ 64 - 1)) × (s + sum_by (number_below l.tail l.end) (drop l.piece-index l.pieces) ≡ sum_by (number_below l.tail l.end) l.pieces)
