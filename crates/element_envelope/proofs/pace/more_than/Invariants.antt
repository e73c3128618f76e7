use Rattle.std.specs.Prelude.{pos, ◌∷◌}
use Rattle.std.proofs.Common.{drop}
use Rattle.rational.specs.Rational.{ℚ, ◌≤ℚ◌, int}
use Rattle.element_envelope.specs.Pace.{AreCapped}
use Rattle.element_envelope.proofs.pace.more_than.Given as goal

-- the rest being capped by more than was seen, all are
abbrev pub invariant-loop-p : goal.invariant-loop-p
invariant-loop-p l =
    (int (pos 0) ≤ℚ l.seen.more)
    × ((a : ℚ) → l.seen.more ≤ℚ a → AreCapped l.slope a l.end l.seen.low (l.last ∷ drop l.p-index l.rest) → AreCapped l.slope a l.end (int (pos 0)) (l.first ∷ l.rest))
