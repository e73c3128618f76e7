-- The quotient of two whole numbers, rounded up.
use Rattle.std.specs.Prelude.{◌≡◌, ℕ, zero, suc, ◌+◌, ◌/◌, ◌%◌, ◌<◌, ℤ, pos, negsuc, ◌<ℤ◌, nat_abs}
use Rattle.std.proofs.Common.{arith, sym, ap, ap₂, ◌∙◌, refl, subst}
use Rattle.std.proofs.lemmas.Int.{ints}
use Rattle.rational.specs.Rational.{ℚ, den, int, frac, ◌/ℚ◌, ◌≤ℚ◌, ◌<ℚ◌}
use Rattle.rational.specs.Fractions.{frac_self}
use Rattle.rational.specs.Gauge.{size_up}
use Rattle.rational.proofs.Laws.{num_pos, not_zero, le_of_lt}
use Rattle.rational.proofs.Quotients.{frac_is_div, div_nonneg, div_mono, zero_div}
use Rattle.min_plus.specs.WholeUp.{whole_up}
use Rattle.upp_limits.proofs.Rounding.{whole_up_size, whole_up_most, size_exact, size_over}

whole_is : (x : ℚ) → den x ≡ 1 → x ≡ int x.num
whole_is x h =
    let none : x.pre ≡ 0 = omega (arith, h) in
    frac_self x ∙ ap (λ k. frac x.num k) none

-- a numerator above 0
above_is : (z : ℤ) → pos 0 <ℤ z → (k : ℕ) × (z ≡ pos (suc k))
above_is (pos zero) l = absurd (omega (arith, ints, l))
above_is (pos (suc k)) l = (k, refl)
above_is (negsuc k) l = absurd (omega (arith, ints, l))

pub some_top : (y : ℚ) → int (pos 0) <ℚ y → 0 < nat_abs y.num
some_top y h =
    let (k, e) = above_is y.num (num_pos y h) in
    let is : nat_abs y.num ≡ suc k = ap nat_abs e in
    omega (arith, is)

pub whole_none : (x y : ℚ) → int (pos 0) <ℚ y → x ≤ℚ int (pos 0) → 0 ≡ whole_up (x /ℚ y)
whole_none x y some h =
    let z : int (pos 0) /ℚ y ≡ int (pos 0) = zero_div y (not_zero y some) in
    let a = whole_up_most (x /ℚ y) 0 (subst (λ q. x /ℚ y ≤ℚ q) z (div_mono x (int (pos 0)) y some h)) in
    omega (arith, a)

-- the quotient over the second numerator, and its size
whole_over : (x y : ℚ) (k : ℕ) → den x ≡ 1 → den y ≡ 1 → y.num ≡ pos (suc k) → frac x.num k ≡ x /ℚ y
whole_over x y k p q e = frac_is_div x.num k ∙ sym (ap₂ (λ (u v : ℚ). u /ℚ v) (whole_is x p) (whole_is y q ∙ ap int e))

up_is : (x y : ℚ) (k n : ℕ) → int (pos 0) <ℚ x → int (pos 0) <ℚ y → den x ≡ 1 → den y ≡ 1 → y.num ≡ pos (suc k) → n ≡ size_up (frac x.num k) → n ≡ whole_up (x /ℚ y)
up_is x y k n p some dx dy e is =
    is ∙ ap size_up (whole_over x y k dx dy e) ∙ whole_up_size (x /ℚ y) (div_nonneg x y some (le_of_lt p))

pub whole_exact : (x y : ℚ) (t b : ℕ) → int (pos 0) <ℚ x → int (pos 0) <ℚ y → den x ≡ 1 → den y ≡ 1 → t ≡ nat_abs x.num → b ≡ nat_abs y.num → t % b ≡ 0
    → t / b ≡ whole_up (x /ℚ y)
whole_exact x y t b p some dx dy f g h =
    let (k, e) = above_is y.num (num_pos y some) in
    up_is x y k (t / b) p some dx dy e (size_exact x.num k t b f (g ∙ ap nat_abs e) h)

pub whole_more : (x y : ℚ) (t b : ℕ) → int (pos 0) <ℚ x → int (pos 0) <ℚ y → den x ≡ 1 → den y ≡ 1 → t ≡ nat_abs x.num → b ≡ nat_abs y.num → (t % b ≡ 0 → ⊥)
    → t / b + 1 ≡ whole_up (x /ℚ y)
whole_more x y t b p some dx dy f g h =
    let (k, e) = above_is y.num (num_pos y some) in
    up_is x y k (t / b + 1) p some dx dy e (size_over x.num k t b f (g ∙ ap nat_abs e) h)
