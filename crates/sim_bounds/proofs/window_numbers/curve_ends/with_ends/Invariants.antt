use Rattle.std.proofs.Common.{◌≡◌, drop}
use Rattle.upp_limits.specs.Spans.{spans}
use Rattle.upp_limits.specs.Limits.{Numbers, joined}
use Rattle.upp_limits.specs.Gathered.{Gathers}
use Rattle.sim_bounds.specs.window_numbers.CurveEnds.{all_end_numbers}
use Rattle.sim_bounds.proofs.window_numbers.curve_ends.with_ends.Given as goal

-- what is gathered, and the numbers of the pieces that are left, make the whole
abbrev pub invariant-loop-i : goal.invariant-loop-i
invariant-loop-i l =
    (n : Numbers) → Gathers l.fn.g n
    → (m : Numbers) × Gathers l.found m × (joined m (all_end_numbers l.tail l.end (spans l.tail (drop l.i l.pieces))) ≡ joined n (all_end_numbers l.tail l.end (spans l.tail l.pieces)))
