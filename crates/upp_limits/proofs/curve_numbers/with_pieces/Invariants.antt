use Rattle.std.proofs.Common.{◌≡◌, drop}
use Rattle.upp_limits.specs.Spans.{spans}
use Rattle.upp_limits.specs.Limits.{Numbers, joined}
use Rattle.upp_limits.specs.Gathered.{Gathers}
use Rattle.upp_limits.specs.ClosedForm.{closed_spans}
use Rattle.upp_limits.proofs.curve_numbers.with_pieces.Given as goal

-- what is gathered, and the numbers of the pieces that are left, make the whole
abbrev pub invariant-loop-i : goal.invariant-loop-i
invariant-loop-i l =
    (n : Numbers) → Gathers l.fn.g n
    → (m : Numbers) × Gathers l.found m × (joined m (closed_spans l.counted l.end (spans l.of.tail.now (drop l.i l.of.pieces.now))) ≡ joined n (closed_spans l.counted l.end (spans l.of.tail.now l.of.pieces.now)))
