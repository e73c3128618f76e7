-- The whole numbers next to a rational, as in any textbook.
use Rattle.std.specs.Prelude.{◌≡◌, ℕ, ◌<◌, ℤ, pos, neg_ℤ, ◌+ℤ◌, ◌*ℤ◌}
use Rattle.std.specs.Int.{int_div_euclid}
use Rattle.rational.specs.Rational.{ℚ, den, neg_ℚ}

-- the largest whole number that is at most x
unfoldable pub floor : ℚ → ℤ
floor x = int_div_euclid x.num (pos (den x))

-- the least whole number that is at least x
unfoldable pub ceil : ℚ → ℤ
ceil x = neg_ℤ (floor (neg_ℚ x))

-- a is the whole number times d and the rest, which is less than d
pub record IsWholeAndRest (a : ℤ) (d : ℕ) (whole : ℤ) (rest : ℕ) : Type 0 where
  pub is : a ≡ whole *ℤ pos d +ℤ pos rest
  pub below : rest < d
