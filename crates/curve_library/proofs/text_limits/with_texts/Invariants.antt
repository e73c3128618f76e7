use Rattle.std.proofs.Common.{◌≡◌, drop}
use Rattle.upp_limits.specs.ClosedForm.{closed_spans}
use Rattle.upp_limits.specs.Gathered.{Gathers}
use Rattle.upp_limits.specs.Limits.{Numbers, joined}
use Rattle.upp_limits.specs.Spans.{spans}
use Rattle.curve_library.specs.Listed.{text_pieces, text_tail}
use Rattle.curve_library.proofs.text_limits.with_texts.Given as goal

-- what is gathered, and the numbers of the pieces that are left, make the whole
abbrev pub invariant-loop-i : goal.invariant-loop-i
invariant-loop-i l =
    let t = text_tail l.texts l.tail in
    (n : Numbers) → Gathers l.fn.g n
    → (m : Numbers) × Gathers l.found m
    × (joined m (closed_spans t l.fn.end (spans t (drop l.i (text_pieces l.texts)))) ≡ joined n (closed_spans t l.fn.end (spans t (text_pieces l.texts))))
