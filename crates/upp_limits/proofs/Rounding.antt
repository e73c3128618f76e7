-- A number rounded up; and how many copies of a start are before a time, told by whether a copy is.
use Rattle.std.specs.Prelude.{◌≡◌, ℕ, zero, suc, ◌+◌, ◌-◌, ◌*◌, ◌/◌, ◌%◌, ◌<◌, ◌≤◌, ◌^◌, ◌↔◌, ℤ, pos, ◌*ℤ◌, nat_abs, None, IsTrue, Bool, true, false}
use Rattle.std.proofs.Common.{arith, sym, ap, ◌∙◌, refl, subst, inl, inr}
use Rattle.std.proofs.lemmas.Bool.{cases_lt, true≢false}
use native.Mathlib.Nat.{div-add-mod', mod-lt, mul_comm, le_of_mul-le-mul_right, lt_of_mul-lt-mul_right, zero-lt-suc}
use Rattle.rational.specs.Ints.{mul_comm_z}
use Rattle.rational.specs.Rational.{ℚ, den, int, frac, ◌+ℚ◌, ◌-ℚ◌, ◌*ℚ◌, ◌/ℚ◌, ◌≤ℚ◌, ◌<ℚ◌}
use Rattle.rational.specs.Fractions.{frac_self, abs-mul}
use Rattle.rational.specs.Gauge.{cap, size_up}
use Rattle.rational.specs.declared.Extended.TheVariants.{Inf}
use Rattle.rational.proofs.Laws.{lt_irrefl, le_lt_trans, le_of_lt, le_or_lt, mul_nonneg, mul_le_mul, mul_zero}
use Rattle.rational.proofs.Integers.{nat_nonneg, mul_whole}
use Rattle.rational.proofs.Grid.{within_nonneg}
use Rattle.upp_curve.specs.declared.affine_segment.line.Piece.{Piece}
use Rattle.min_plus.specs.WholeUp.{whole_up}
use Rattle.upp_limits.proofs.CommonDen.{size_up_within, size_up_least, within_parts, within_parts_out}
use Rattle.upp_limits.proofs.Copies.{whole_up_in, whole_up_out, copies_in, copies_out}

pub whole_up_least : (x : ℚ) → x ≤ℚ int (pos (whole_up x))
whole_up_least x = elim (le_or_lt x (int (pos (whole_up x)))) [
  | inl h ↦ h
  | inr h ↦ let l = whole_up_out x (whole_up x) h in absurd (omega arith)
]

pub whole_up_most : (x : ℚ) (n : ℕ) → x ≤ℚ int (pos n) → whole_up x ≤ n
whole_up_most x n h = elim (cases_lt n (whole_up x)) [
  | inr l ↦ l
  | inl l ↦ absurd (lt_irrefl x (le_lt_trans h (whole_up_in x n l)))
]

-- from 0 on it is the size rounded up
pub whole_up_size : (x : ℚ) → int (pos 0) ≤ℚ x → size_up x ≡ whole_up x
whole_up_size x h =
    let a = whole_up_most x (size_up x) ((size_up_within x).high) in
    let b = size_up_least (whole_up x) x (within_nonneg (int (pos (whole_up x))) x h (whole_up_least x)) in
    omega arith

pub whole_up_neg : (x : ℚ) → x <ℚ int (pos 0) → 0 ≡ whole_up x
whole_up_neg x h = let a = whole_up_most x 0 (le_of_lt h) in omega arith

-- ---- the size of a quotient, rounded up
size_is : (a : ℤ) (d n : ℕ) → nat_abs a ≤ n * suc d → ((m : ℕ) → nat_abs a ≤ m * suc d → n ≤ m) → n ≡ size_up (frac a d)
size_is a d n h least =
    let up = size_up_least n (frac a d) (within_parts n a d h) in
    let down = least (size_up (frac a d)) (within_parts_out (size_up (frac a d)) a d (size_up_within (frac a d))) in
    omega arith

exact_least : (t q d m : ℕ) → q * suc d ≡ t → t ≤ m * suc d → q ≤ m
exact_least t q d m e h = let l : q * suc d ≤ m * suc d = omega arith in le_of_mul-le-mul_right l (zero-lt-suc d)

over_least : (t q d m r : ℕ) → q * suc d + r ≡ t → 0 < r → t ≤ m * suc d → q + 1 ≤ m
over_least t q d m r e some h =
    let l : q * suc d < m * suc d = omega arith in
    let k = lt_of_mul-lt-mul_right (suc d) l in
    omega arith

pub size_exact : (a : ℤ) (d t b : ℕ) → t ≡ nat_abs a → b ≡ suc d → t % b ≡ 0 → t / b ≡ size_up (frac a d)
size_exact a d t b e f h =
    let g : t % suc d ≡ 0 = rw (← f) h in
    let w = div-add-mod' t (suc d) in
    let q = t / suc d in
    rw f (size_is a d q (omega (arith, w, g, e)) (λ m l. exact_least t q d m (omega (arith, w, g)) (omega (arith, e, l))))

pub size_over : (a : ℤ) (d t b : ℕ) → t ≡ nat_abs a → b ≡ suc d → (t % b ≡ 0 → ⊥) → t / b + 1 ≡ size_up (frac a d)
size_over a d t b e f h =
    let g : t % suc d ≡ 0 → ⊥ = rw (← f) h in
    let w = div-add-mod' t (suc d) in
    let l = mod-lt t (zero-lt-suc d) in
    let q = t / suc d in
    let some : 0 < t % suc d = not_zero_nat (t % suc d) g in
    rw f (size_is a d (q + 1) (omega (arith, w, l, e)) (λ m k. over_least t q d m (t % suc d) w some (omega (arith, e, k))))
  where
    not_zero_nat : (n : ℕ) → (n ≡ 0 → ⊥) → 0 < n
    not_zero_nat zero h = absurd (h refl)
    not_zero_nat (suc n) h = zero-lt-suc n

-- so many times a number that is not below 0
reach_frac : (s : ℕ) (x : ℚ) → int (pos s) *ℚ x ≡ frac (x.num *ℤ pos s) x.pre
reach_frac s x = ap (λ y. int (pos s) *ℚ y) (frac_self x) ∙ mul_whole (pos s) x.num x.pre ∙ ap (λ z. frac z x.pre) (mul_comm_z (pos s) x.num)

reach_size : (s p top : ℕ) (x : ℚ) → p ≡ s * top → top ≡ nat_abs x.num → p ≡ nat_abs (x.num *ℤ pos s)
reach_size s p top x e f = e ∙ mul_comm s top ∙ ap (λ n. n * s) f ∙ sym (abs-mul x.num s)

reach_up : (s : ℕ) (x : ℚ) → int (pos 0) ≤ℚ x → size_up (frac (x.num *ℤ pos s) x.pre) ≡ whole_up (int (pos s) *ℚ x)
reach_up s x h = ap size_up (sym (reach_frac s x)) ∙ whole_up_size (int (pos s) *ℚ x) (mul_nonneg (nat_nonneg s) h)

pub reach_exact : (s p top b : ℕ) (x : ℚ) → int (pos 0) ≤ℚ x → p ≡ s * top → top ≡ nat_abs x.num → b ≡ den x → p % b ≡ 0 → p / b ≡ whole_up (int (pos s) *ℚ x)
reach_exact s p top b x h e f g r = size_exact (x.num *ℤ pos s) x.pre p b (reach_size s p top x e f) g r ∙ reach_up s x h

pub reach_over : (s p top b : ℕ) (x : ℚ) → int (pos 0) ≤ℚ x → p ≡ s * top → top ≡ nat_abs x.num → b ≡ den x → (p % b ≡ 0 → ⊥) → p / b + 1 ≡ whole_up (int (pos s) *ℚ x)
reach_over s p top b x h e f g r = size_over (x.num *ℤ pos s) x.pre p b (reach_size s p top x e f) g r ∙ reach_up s x h

pub reach_none : (s : ℕ) (x : ℚ) → x <ℚ int (pos 0) → 0 ≡ whole_up (int (pos s) *ℚ x)
reach_none s x h =
    let l : int (pos s) *ℚ x ≤ℚ int (pos s) *ℚ int (pos 0) = mul_le_mul (int (pos s)) (nat_nonneg s) (le_of_lt h) in
    let a = whole_up_most (int (pos s) *ℚ x) 0 (subst (λ y. int (pos s) *ℚ x ≤ℚ y) (mul_zero (int (pos s))) l) in
    omega arith

-- ---- counting by whether a copy is before `end`
pub before_count : (x d end : ℚ) (n : ℕ) → int (pos 0) <ℚ d → (x +ℚ int (pos n) *ℚ d <ℚ end) ↔ (n < whole_up ((end -ℚ x) /ℚ d))
before_count x d end n some =
    let p : Piece = record { x = x; at = Inf; line = None } in
    (λ h. copies_out d end p n some h, λ h. copies_in d end p n some h)

pub cap_reached : (n : ℕ) → 2 ^ 128 - 1 < n → 2 ^ 128 - 1 ≡ cap n
unfolding cap
cap_reached n h = omega arith

pub cap_kept : (m n : ℕ) → m ≡ n → n ≤ 2 ^ 128 - 1 → m ≡ cap n
unfolding cap
cap_kept m n e h = omega arith

-- what the test of one copy says of the count
pub told_below : (x d end : ℚ) (n : ℕ) (b : Bool) → int (pos 0) <ℚ d → (IsTrue b ↔ (x +ℚ int (pos n) *ℚ d <ℚ end)) → b ≡ true → n < whole_up ((end -ℚ x) /ℚ d)
told_below x d end n b some h e = (before_count x d end n some).0 (h.0 e)

pub told_from : (x d end : ℚ) (n : ℕ) (b : Bool) → int (pos 0) <ℚ d → (IsTrue b ↔ (x +ℚ int (pos n) *ℚ d <ℚ end)) → b ≡ false → whole_up ((end -ℚ x) /ℚ d) ≤ n
told_from x d end n b some h e = elim (cases_lt n (whole_up ((end -ℚ x) /ℚ d))) [
  | inr l ↦ l
  | inl l ↦ absurd (true≢false (sym (h.1 ((before_count x d end n some).1 l)) ∙ e))
]
