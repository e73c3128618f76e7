-- Where a number stands and how large it is: on the grid of the whole multiples of 1 / d, and within a bound of 0.
-- Own choice. A number on a grid and within a bound has a numerator and a denominator of known size, with nothing
-- said of how it was made.
use Rattle.std.specs.Prelude.{◌≡◌, ℕ, ℤ, pos}
use Rattle.rational.specs.Rational.{ℚ, ◌*ℚ◌, neg_ℚ, ◌≤ℚ◌, int}

-- q times d is a whole number
pub record Whole (d : ℕ) (q : ℚ) : Type 0 where
  pub steps : ℤ
  pub is : q *ℚ int (pos d) ≡ int steps

-- q is at most v above 0 and at most v below it
pub record Within (v q : ℚ) : Type 0 where
  pub low : neg_ℚ v ≤ℚ q
  pub high : q ≤ℚ v
