-- The laws that make the rationals what they are, as in any textbook of algebra: an ordered field, dense and
-- Archimedean, of quotients of integers.
use Rattle.std.specs.Prelude.{◌≡◌, ◌≢◌, ℕ, suc, ℤ, pos, ◌*ℤ◌, ◌≤ℤ◌, ◌<ℤ◌, nat_abs, ◌↔◌, ◌⊎◌}
use Rattle.rational.specs.Gcd.{gcd}
use Rattle.rational.specs.Rational.{ℚ, den, frac, int, ◌+ℚ◌, ◌-ℚ◌, ◌*ℚ◌, ◌/ℚ◌, neg_ℚ, inv_ℚ, ◌≤ℚ◌, ◌<ℚ◌}

-- sums and products commute and associate, 0 and 1 are neutral, products go over sums, and each number has an
-- opposite and, save 0, an inverse
pub record IsField : Type 0 where
  pub add_comm : (x y : ℚ) → x +ℚ y ≡ y +ℚ x
  pub add_assoc : (x y z : ℚ) → (x +ℚ y) +ℚ z ≡ x +ℚ (y +ℚ z)
  pub add_zero : (x : ℚ) → x +ℚ int (pos 0) ≡ x
  pub add_neg : (x : ℚ) → x +ℚ neg_ℚ x ≡ int (pos 0)
  pub mul_comm : (x y : ℚ) → x *ℚ y ≡ y *ℚ x
  pub mul_assoc : (x y z : ℚ) → (x *ℚ y) *ℚ z ≡ x *ℚ (y *ℚ z)
  pub mul_one : (x : ℚ) → x *ℚ int (pos 1) ≡ x
  pub mul_inv : (x : ℚ) → x ≢ int (pos 0) → x *ℚ inv_ℚ x ≡ int (pos 1)
  pub mul_add : (x y z : ℚ) → x *ℚ (y +ℚ z) ≡ x *ℚ y +ℚ x *ℚ z
  pub distinct : int (pos 0) ≢ int (pos 1)
  pub difference : (x y : ℚ) → (x -ℚ y) +ℚ y ≡ x
  pub quotient : (x y : ℚ) → y ≢ int (pos 0) → (x /ℚ y) *ℚ y ≡ x

-- the order is total, sums keep it, and products of numbers that are at least 0 are at least 0
pub record IsOrdered : Type 0 where
  pub le_refl : (x : ℚ) → x ≤ℚ x
  pub le_trans : (x y z : ℚ) → x ≤ℚ y → y ≤ℚ z → x ≤ℚ z
  pub antisym : (x y : ℚ) → x ≤ℚ y → y ≤ℚ x → x ≡ y
  pub total : (x y : ℚ) → (x ≤ℚ y) ⊎ (y ≤ℚ x)
  pub strict : (x y : ℚ) → (x <ℚ y) ↔ ¬ (y ≤ℚ x)
  pub add : (x y z : ℚ) → x ≤ℚ y → x +ℚ z ≤ℚ y +ℚ z
  pub mul : (x y : ℚ) → int (pos 0) ≤ℚ x → int (pos 0) ≤ℚ y → int (pos 0) ≤ℚ x *ℚ y

-- a / (d + 1) and b / (e + 1) are equal, or in order, exactly where their cross products are
pub record CrossProducts (a : ℤ) (d : ℕ) (b : ℤ) (e : ℕ) : Type 0 where
  pub equal : (frac a d ≡ frac b e) ↔ (a *ℤ pos (suc e) ≡ b *ℤ pos (suc d))
  pub at_most : (frac a d ≤ℚ frac b e) ↔ ((a *ℤ pos (suc e)) ≤ℤ (b *ℤ pos (suc d)))
  pub less : (frac a d <ℚ frac b e) ↔ ((a *ℤ pos (suc e)) <ℤ (b *ℤ pos (suc d)))

-- each number is the quotient of its two parts, and these have no common divisor but 1
pub record LowestTerms (x : ℚ) : Type 0 where
  pub value : x ≡ int x.num /ℚ int (pos (den x))
  pub lowest : gcd (nat_abs x.num) (den x) ≡ 1

-- between any two numbers there is a third
abbrev pub IsDense : Type 0
IsDense = (x y : ℚ) → x <ℚ y → (m : ℚ) × (x <ℚ m) × (m <ℚ y)

-- each number is below some natural, and some natural times a positive number passes it
pub record IsArchimedean : Type 0 where
  pub above : (x : ℚ) → (n : ℕ) × (x <ℚ int (pos n))
  pub passed : (x e : ℚ) → int (pos 0) <ℚ e → (n : ℕ) × (x <ℚ int (pos n) *ℚ e)
