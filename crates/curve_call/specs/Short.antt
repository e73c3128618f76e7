-- Whole numbers that are so short that products of two, and one more, fit. Own choice.
use Rattle.std.specs.Prelude.{◌≡◌, ◌<◌, ◌^◌, nat_abs}
use Rattle.rational.specs.Rational.{ℚ, den}

-- a whole number below 2 ^ 62 in size
pub record IsShort (x : ℚ) : Type 0 where
  pub whole : den x ≡ 1
  pub size : nat_abs x.num < 2 ^ 62
