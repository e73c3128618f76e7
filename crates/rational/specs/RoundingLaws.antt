-- What the floor, the ceiling, the lesser and the greater of two are, by the order alone.
use Rattle.std.specs.Prelude.{◌≡◌, ℤ, pos, ◌≤ℤ◌, ◌⊎◌}
use Rattle.rational.specs.Rational.{ℚ, int, ◌+ℚ◌, ◌≤ℚ◌, ◌<ℚ◌}

-- the floor is the largest whole number that is at most x, less than 1 below it, and the only one
pub record IsFloor (x : ℚ) (f : ℤ) : Type 0 where
  pub below : int f ≤ℚ x
  pub near : x <ℚ int f +ℚ int (pos 1)
  pub largest : (z : ℤ) → int z ≤ℚ x → z ≤ℤ f
  pub only : (z : ℤ) → int z ≤ℚ x → x <ℚ int z +ℚ int (pos 1) → f ≡ z

-- the ceiling is the least whole number that is at least x, less than 1 above it, and the only one
pub record IsCeiling (x : ℚ) (c : ℤ) : Type 0 where
  pub above : x ≤ℚ int c
  pub near : int c <ℚ x +ℚ int (pos 1)
  pub least : (z : ℤ) → x ≤ℚ int z → c ≤ℤ z
  pub only : (z : ℤ) → x ≤ℚ int z → int z <ℚ x +ℚ int (pos 1) → c ≡ z

-- the lesser of two is at most both, and one of them
pub record IsLesser (x y m : ℚ) : Type 0 where
  pub left : m ≤ℚ x
  pub right : m ≤ℚ y
  pub one : (m ≡ x) ⊎ (m ≡ y)

-- the greater of two is at least both, and one of them
pub record IsGreater (x y m : ℚ) : Type 0 where
  pub left : x ≤ℚ m
  pub right : y ≤ℚ m
  pub one : (m ≡ x) ⊎ (m ≡ y)
