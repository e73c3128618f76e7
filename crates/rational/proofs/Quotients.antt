-- Quotients: what they are, how they are told from products, and the order.
use Rattle.std.specs.Prelude.{◌≡◌, ◌≢◌, ℕ, zero, suc, ◌<◌, ◌≤◌, ◌^◌, ℤ, pos, ◌↔◌, ◌⊎◌}
use Rattle.std.proofs.Common.{arith, sym, ap, ◌∙◌, subst, inl, inr}
use Rattle.std.proofs.lemmas.Int.{ints}
use Rattle.rational.specs.Rational.{ℚ, ◌+ℚ◌, ◌-ℚ◌, ◌*ℚ◌, ◌/ℚ◌, inv_ℚ, neg_ℚ, ◌≤ℚ◌, ◌<ℚ◌, int, frac}
use Rattle.rational.specs.Fractions.{frac-same}
use Rattle.rational.specs.Ratio.{IsSmall}
use Rattle.rational.proofs.Integers.{mul_whole, nat_lt}
use Rattle.rational.proofs.Laws.{above, mul_comm, add_mul, sub_mul, mul_cancel, mul_le_mul_right, mul_lt_mul_right, mul_sub}
use Rattle.rational.proofs.Laws.{div_mul, le_of_mul, lt_of_mul, le_or_lt, not_zero, antisym, zero_mul}
use Rattle.rational.proofs.Linear.{with1, with6}
use Rattle.rational.proofs.Parts.{small_ratio}

-- z is x / y exactly where z y is x
pub div_unique : (x y z : ℚ) → y ≢ int (pos 0) → z *ℚ y ≡ x → x /ℚ y ≡ z
div_unique x y z h e = mul_cancel (x /ℚ y) z y h (div_mul x y h ∙ sym e)

pub mul_div : (x y : ℚ) → y ≢ int (pos 0) → (x *ℚ y) /ℚ y ≡ x
mul_div x y h = div_unique (x *ℚ y) y x h (λ i. x *ℚ y)

pub zero_div : (y : ℚ) → y ≢ int (pos 0) → int (pos 0) /ℚ y ≡ int (pos 0)
zero_div y h = div_unique (int (pos 0)) y (int (pos 0)) h (zero_mul y)

pub add_div : (x y z : ℚ) → (x +ℚ y) /ℚ z ≡ x /ℚ z +ℚ y /ℚ z
unfolding ◌/ℚ◌
add_div x y z = add_mul x y (inv_ℚ z)

pub sub_div : (x y z : ℚ) → (x -ℚ y) /ℚ z ≡ x /ℚ z -ℚ y /ℚ z
unfolding ◌/ℚ◌
sub_div x y z = sub_mul x y (inv_ℚ z)

-- a fraction is the quotient of its two integers
pub frac_is_div : (a : ℤ) (d : ℕ) → frac a d ≡ int a /ℚ int (pos (suc d))
frac_is_div a d =
    let some = not_zero (int (pos (suc d))) (nat_lt 0 (suc d) (omega arith)) in
    sym (div_unique (int a) (int (pos (suc d))) (frac a d) some (mul_comm (frac a d) (int (pos (suc d))) ∙ mul_whole (pos (suc d)) a d ∙ frac-same _ _ _ _ (omega (arith, ints))))

-- of two whole numbers below 2^127
pub quotient_small : (n d : ℕ) → 0 < d → n < 2 ^ 127 → d < 2 ^ 127 → IsSmall (int (pos n) /ℚ int (pos d))
quotient_small n zero some top bottom = absurd (omega (arith, some))
quotient_small n (suc d) some top bottom =
    subst IsSmall (frac_is_div (pos n) d) (small_ratio (pos n) (pos (suc d)) (λ e. omega (arith, ints, e)) top bottom)

-- ---- a product that is 0
pub mul_zero_cases : (x y : ℚ) → x *ℚ y ≡ int (pos 0) → (x ≡ int (pos 0)) ⊎ (y ≡ int (pos 0))
mul_zero_cases x y e = elim (le_or_lt x (int (pos 0))) [
  | inl l ↦ elim (le_or_lt (int (pos 0)) x) [
    | inl k ↦ inl (antisym (l, k))
    | inr k ↦ inr (cancelled (λ z. not_zero (neg_ℚ x) (with1 x (λ c. omega (arith, c.le, c.lt, c.same))) (ap neg_ℚ z ∙ with1 x (λ c. omega (arith, c.le, c.lt, c.same)))))
  ]
  | inr l ↦ inr (cancelled (not_zero x l))
]
  where
    cancelled : x ≢ int (pos 0) → y ≡ int (pos 0)
    cancelled h = mul_cancel y (int (pos 0)) x h (mul_comm y x ∙ e ∙ sym (zero_mul x))

-- ---- the order: a positive divisor goes to the other side
pub div_le : (x y z : ℚ) → int (pos 0) <ℚ y → (x /ℚ y ≤ℚ z) ↔ (x ≤ℚ z *ℚ y)
div_le x y z h =
    let e = div_mul x y (not_zero y h) in
    let some : int (pos 0) ≤ℚ y = with1 y (λ c. omega (arith, c.le, c.lt, c.same)) in
    (λ l. subst (λ v. v ≤ℚ z *ℚ y) e (mul_le_mul_right y some l), λ l. le_of_mul y (x /ℚ y) z h (subst (λ v. v ≤ℚ z *ℚ y) (sym e) l))

pub le_div : (x y z : ℚ) → int (pos 0) <ℚ y → (z ≤ℚ x /ℚ y) ↔ (z *ℚ y ≤ℚ x)
le_div x y z h =
    let e = div_mul x y (not_zero y h) in
    let some : int (pos 0) ≤ℚ y = with1 y (λ c. omega (arith, c.le, c.lt, c.same)) in
    (λ l. subst (λ v. z *ℚ y ≤ℚ v) e (mul_le_mul_right y some l), λ l. le_of_mul y z (x /ℚ y) h (subst (λ v. z *ℚ y ≤ℚ v) (sym e) l))

pub div_lt : (x y z : ℚ) → int (pos 0) <ℚ y → (x /ℚ y <ℚ z) ↔ (x <ℚ z *ℚ y)
div_lt x y z h =
    let e = div_mul x y (not_zero y h) in
    (λ l. subst (λ v. v <ℚ z *ℚ y) e (mul_lt_mul_right y h l), λ l. lt_of_mul y (x /ℚ y) z h (subst (λ v. v <ℚ z *ℚ y) (sym e) l))

pub lt_div : (x y z : ℚ) → int (pos 0) <ℚ y → (z <ℚ x /ℚ y) ↔ (z *ℚ y <ℚ x)
lt_div x y z h =
    let e = div_mul x y (not_zero y h) in
    (λ l. subst (λ v. z *ℚ y <ℚ v) e (mul_lt_mul_right y h l), λ l. lt_of_mul y z (x /ℚ y) h (subst (λ v. z *ℚ y <ℚ v) (sym e) l))

pub div_mono : (x z y : ℚ) → int (pos 0) <ℚ y → x ≤ℚ z → x /ℚ y ≤ℚ z /ℚ y
div_mono x z y h l = (div_le x y (z /ℚ y) h).1 (subst (λ v. x ≤ℚ v) (sym (div_mul z y (not_zero y h))) l)

pub div_nonneg : (x y : ℚ) → int (pos 0) <ℚ y → int (pos 0) ≤ℚ x → int (pos 0) ≤ℚ x /ℚ y
div_nonneg x y h l = (le_div x y (int (pos 0)) h).1 (subst (λ v. v ≤ℚ x) (sym (zero_mul y)) l)

pub div_pos : (x y : ℚ) → int (pos 0) <ℚ y → int (pos 0) <ℚ x → int (pos 0) <ℚ x /ℚ y
div_pos x y h l = (lt_div x y (int (pos 0)) h).1 (subst (λ v. v <ℚ x) (sym (zero_mul y)) l)

-- ---- some natural times a positive number is above each number
pub times_above : (x e : ℚ) → int (pos 0) <ℚ e → (n : ℕ) × (x <ℚ int (pos n) *ℚ e)
times_above x e h = let (n, l) = above (x /ℚ e) in (n, (div_lt x e (int (pos n)) h).0 l)

-- a share of what is above 0 is above 0
pub part_pos : (x : ℚ) (n : ℕ) → int (pos 0) <ℚ x → 2 ≤ n → int (pos 0) <ℚ x /ℚ int (pos n)
part_pos x n some two = div_pos x (int (pos n)) (nat_lt 0 n (omega arith)) some

-- where the first rises by more each time, it is past the second by y at some time
pub past_each : (x v a b y n : ℚ) → y -ℚ (x -ℚ v) <ℚ n *ℚ (a -ℚ b) → y <ℚ (x +ℚ n *ℚ a) -ℚ (v +ℚ n *ℚ b)
past_each x v a b y n h = let e = mul_sub n a b in with6 x v y (n *ℚ a) (n *ℚ b) (n *ℚ (a -ℚ b)) (λ c. omega (arith, c.le, c.lt, c.same))
