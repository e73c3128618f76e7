-- The numbers that a fraction is made of.
use Rattle.std.specs.Prelude.{◌≡◌, ℕ, ◌<◌, ◌^◌, ℤ, unsigned_abs}
use Rattle.rational.specs.Gcd.{gcd}

-- n / d is in lowest terms, and both numbers are at most 2 ^ 127 - 1 in size
pub record AreLowest (n : ℤ) (d : ℕ) : Type 0 where
  pub some : 0 < d
  pub top : unsigned_abs n < 2 ^ 127
  pub bottom : d < 2 ^ 127
  pub lowest : gcd (unsigned_abs n) d ≡ 1
