-- Two fractions compare as their whole parts do, and where these are equal as what is left over them.
use Rattle.std.specs.Prelude.{◌≡◌, ◌≢◌, ◌⊎◌, ◌↔◌, Bool, true, false, IsTrue, ℕ, zero, suc, ◌+◌, ◌-◌, ◌*◌, ◌/◌, ◌%◌, ◌<◌, ◌≤◌}
use Rattle.std.specs.Prelude.{ℤ, pos, negsuc, ◌+ℤ◌, ◌-ℤ◌, ◌*ℤ◌, ◌≤ℤ◌, ◌<ℤ◌, unsigned_abs}
use Rattle.std.proofs.Common.{arith, sym, ap, ◌∙◌, subst, refl, inl, inr, nat_cmp, int_cmp, Less, Equal, Greater}
use lib.Signed.{le_z}
use Rattle.std.specs.Ordering.{is_eq}
use Rattle.std.specs.Cmp.{both_ways, Equal-is}
use Rattle.std.proofs.lemmas.Bool.{cases_lt}
use Rattle.std.proofs.lemmas.Int.{ints, by_lt_z}
use native.Mathlib.Nat.{div-add-mod, mul-le-mul_right, mul-lt-mul_of_pos_right, mul-pos, zero-lt-suc, pos_of_ne-zero}
use Rattle.rational.specs.Ints.{diffs, diff_is, diff_same, le_scale_z, lt_scale_z}
use Rattle.rational.specs.Rational.{ℚ}
use Rattle.rational.specs.Ratio.{ratio, cmp_q}
use Rattle.rational.proofs.Floor.{one_more}
use Rattle.rational.proofs.Comparison.{cmp_equal, cmp_self}
use Rattle.rational.specs.Compared.{same_q}
use Rattle.rational.proofs.Floor.{euclid}
use Rattle.fraction128.specs.Parts.{AreLowest}
use Rattle.fraction128.proofs.Values.{parts_of}
use Rattle.rational.specs.Floor.{IsWholeAndRest}

pub cmp_less : (a b : ℕ) → a < b → nat_cmp a b ≡ Less
cmp_less a b h = grind arith

pub cmp_more : (a b : ℕ) → b < a → nat_cmp a b ≡ Greater
cmp_more a b h = grind arith

pub cmp_shift : (a b c d k : ℕ) → a ≡ k + c → b ≡ k + d → nat_cmp a b ≡ nat_cmp c d
cmp_shift a b c d k p q = grind arith

-- p = k q + x
pub cmp_same_whole : (p q r s k x y : ℕ) → q * k + x ≡ p → s * k + y ≡ r → nat_cmp (p * s) (r * q) ≡ nat_cmp (x * s) (y * q)
cmp_same_whole p q r s k x y e f = cmp_shift (p * s) (r * q) (x * s) (y * q) (k * (q * s)) (rw (← e) (omega arith)) (rw (← f) (omega arith))

whole_less : (p q r s k m x y : ℕ) → q * k + x ≡ p → s * m + y ≡ r → x < q → 0 < s → k < m → p * s < r * q
whole_less p q r s k m x y e f below some h =
    let a : x * s < q * s = mul-lt-mul_of_pos_right below some in
    let b : suc k * (q * s) ≤ m * (q * s) = mul-le-mul_right (q * s) h in
    rw (← e, ← f) (omega (arith, a, b))

pub cmp_whole : (p q r s k m x y : ℕ) → q * k + x ≡ p → s * m + y ≡ r → x < q → y < s → k ≢ m → nat_cmp k m ≡ nat_cmp (p * s) (r * q)
cmp_whole p q r s k m x y e f xs ys n =
    elim (cases_lt k m) [
      | inl h ↦ cmp_less k m h ∙ sym (cmp_less _ _ (whole_less p q r s k m x y e f xs (omega arith) h))
      | inr h ↦ let g : m < k = omega (arith, n) in cmp_more k m g ∙ sym (cmp_more _ _ (whole_less r s p q m k y x f e ys (omega arith) g))
    ]

pub cmp_turned : (x y q s : ℕ) → nat_cmp (x * s) (y * q) ≡ nat_cmp (s * x) (q * y)
cmp_turned x y q s = cmp_shift (x * s) (y * q) (s * x) (q * y) 0 (omega arith) (omega arith)

pub cmp_none : (x y q s : ℕ) → 0 < q → 0 < s → (x ≡ 0) ⊎ ((x ≡ 0 → ⊥) × (y ≡ 0)) → nat_cmp x y ≡ nat_cmp (x * s) (y * q)
cmp_none x y q s p r (inl h) = rw h (left y)
  where
    left : (y : ℕ) → nat_cmp 0 y ≡ nat_cmp (0 * s) (y * q)
    left zero = cmp_shift 0 0 (0 * s) (0 * q) 0 (omega arith) (omega arith)
    left (suc y) =
        let some : 0 < suc y * q = mul-pos (zero-lt-suc y) p in
        cmp_less 0 (suc y) (zero-lt-suc y) ∙ sym (cmp_less (0 * s) (suc y * q) (omega (arith, some)))
cmp_none x y q s p r (inr h) =
    let above : 0 < x = pos_of_ne-zero h.0 in
    let some : 0 < x * s = mul-pos above r in
    cmp_more x y (omega (arith, h.1)) ∙ sym (cmp_more (x * s) (y * q) (rw h.1 (omega (arith, some))))

-- ---- signed
pub int_cmp_less : (a b : ℤ) → a <ℤ b → int_cmp a b ≡ Less
int_cmp_less a b h = grind (arith, ints)

pub int_cmp_more : (a b : ℤ) → b <ℤ a → int_cmp a b ≡ Greater
int_cmp_more a b h = grind (arith, ints)

pub int_cmp_equal : (a b : ℤ) → a ≡ b → int_cmp a b ≡ Equal
int_cmp_equal a b h = grind (arith, ints)

pub int_cmp_shift : (a b k : ℤ) (c d : ℕ) → a ≡ k +ℤ pos c → b ≡ k +ℤ pos d → int_cmp a b ≡ nat_cmp c d
int_cmp_shift a b k c d p q =
    elim (cases_lt c d) [
      | inl h ↦ int_cmp_less a b (omega (arith, ints)) ∙ sym (cmp_less c d h)
      | inr h ↦ elim (cases_lt d c) [
        | inl g ↦ int_cmp_more a b (omega (arith, ints)) ∙ sym (cmp_more c d g)
        | inr g ↦ let e : c ≡ d = omega arith in int_cmp_equal a b (p ∙ ap (λ n. k +ℤ pos n) e ∙ sym q) ∙ rw e (equal d)
      ]
    ]
  where
    equal : (d : ℕ) → Equal ≡ nat_cmp d d
    equal d = grind arith

scaled : (a f : ℤ) (d e r : ℕ) → a ≡ f *ℤ pos d +ℤ pos r → a *ℤ pos e ≡ f *ℤ pos (d * e) +ℤ pos (r * e)
scaled a f d e r p = rw (p, diff_is f) (simp diffs (diff_same _ _ _ _ (omega arith)))

scaled_turned : (b g : ℤ) (d e s : ℕ) → b ≡ g *ℤ pos e +ℤ pos s → b *ℤ pos d ≡ g *ℤ pos (d * e) +ℤ pos (s * d)
scaled_turned b g d e s p = rw (p, diff_is g) (simp diffs (diff_same _ _ _ _ (omega arith)))

pub rest_cmp : (a b f g : ℤ) (d e r s : ℕ) → IsWholeAndRest a d f r → IsWholeAndRest b e g s → f ≡ g → int_cmp (a *ℤ pos e) (b *ℤ pos d) ≡ nat_cmp (r * e) (s * d)
rest_cmp a b f g d e r s p q h =
    int_cmp_shift _ _ (f *ℤ pos (d * e)) (r * e) (s * d) (scaled a f d e r p.is) (scaled_turned b g d e s q.is ∙ ap (λ z. z *ℤ pos (d * e) +ℤ pos (s * d)) (sym h))

int_whole_less : (a b f g : ℤ) (d e r s : ℕ) → IsWholeAndRest a d f r → IsWholeAndRest b e g s → f <ℤ g → (a *ℤ pos e) <ℤ (b *ℤ pos d)
int_whole_less a b f g d e r s p q h =
    let step : ((f +ℤ pos 1) *ℤ pos (d * e)) ≤ℤ (g *ℤ pos (d * e)) = le_scale_z _ _ (d * e) (omega (arith, ints)) in
    let step2 : (f *ℤ pos (d * e) +ℤ pos (d * e)) ≤ℤ (g *ℤ pos (d * e)) = rw (← one_more f (d * e)) step in
    let some : 0 < e = omega (arith, q.below) in
    let small : r * e < d * e = mul-lt-mul_of_pos_right p.below some in
    rw (scaled a f d e r p.is, scaled_turned b g d e s q.is) (between (f *ℤ pos (d * e)) (g *ℤ pos (d * e)) (d * e) (r * e) (s * d) step2 small)
  where
    between : (x y : ℤ) (n m k : ℕ) → (x +ℤ pos n) ≤ℤ y → m < n → (x +ℤ pos m) <ℤ (y +ℤ pos k)
    between x y n m k h l = omega (arith, ints)

pub int_whole_cmp : (a b f g : ℤ) (d e r s : ℕ) → IsWholeAndRest a d f r → IsWholeAndRest b e g s → f ≢ g → int_cmp f g ≡ int_cmp (a *ℤ pos e) (b *ℤ pos d)
int_whole_cmp a b f g d e r s p q n =
    by_lt_z f g
    (λ h. int_cmp_less f g h ∙ sym (int_cmp_less _ _ (int_whole_less a b f g d e r s p q h)))
    (λ h. let l : g <ℤ f = omega (arith, ints, n) in int_cmp_more f g l ∙ sym (int_cmp_more _ _ (int_whole_less b a g f e d s r q p l)))

pub cmp_same_q : (p q r s : ℕ) → p / q ≡ r / s → nat_cmp (p % q * s) (r % s * q) ≡ nat_cmp (p * s) (r * q)
cmp_same_q p q r s e =
    sym (cmp_same_whole p q r s (p / q) (p % q) (r % s) (div-add-mod p q) (ap (λ k. s * k + r % s) e ∙ div-add-mod r s))

-- over one denominator the order is that of the numerators
pub cmp_one_den : (a b : ℤ) (d e : ℕ) → 0 < e → d ≡ e → int_cmp a b ≡ int_cmp (a *ℤ pos e) (b *ℤ pos d)
cmp_one_den a b d zero some same = absurd (omega arith)
cmp_one_den a b d (suc e) some same = rw same (cases a b)
  where
    cases : (a b : ℤ) → int_cmp a b ≡ int_cmp (a *ℤ pos (suc e)) (b *ℤ pos (suc e))
    cases a b = by_lt_z a b
        (λ h. int_cmp_less a b h ∙ sym (int_cmp_less _ _ (lt_scale_z a b e h)))
        (λ h. by_lt_z b a
        (λ g. int_cmp_more a b g ∙ sym (int_cmp_more _ _ (lt_scale_z b a e g)))
        (λ g. let same : a ≡ b = omega (arith, ints) in int_cmp_equal a b same ∙ sym (int_cmp_equal _ _ (ap (λ z. z *ℤ pos (suc e)) same))))

pub whole_below : (n d : ℕ) → 0 < d → IsWholeAndRest (negsuc n) d (negsuc (n / d)) (d - 1 - n % d)
whole_below n d some = euclid (negsuc n) d some

-- the same from what the code has: the size less one is divided
pub whole_below_code : (a : ℤ) (d k r : ℕ) (z : ℤ) → le_z (pos 0) a ≡ false → 0 < d → k ≡ (unsigned_abs a - 1) / d → r ≡ (unsigned_abs a - 1) % d → z ≡ negsuc 0 -ℤ pos k
    → IsWholeAndRest a d z (d - 1 - r)
whole_below_code (pos n) d k r z h some p q e = absurd (omega (arith, ints))
whole_below_code (negsuc n) d k r z h some p q e =
    let one : suc n - 1 ≡ n = omega arith in
    let whole : z ≡ negsuc (n / d) = e ∙ ap (λ m. negsuc 0 -ℤ pos m) (p ∙ ap (λ m. m / d) one) ∙ less_one (n / d) in
    let rest : r ≡ n % d = q ∙ ap (λ m. m % d) one in
    rw (whole, rest) (whole_below n d some)
  where
    less_one : (m : ℕ) → negsuc 0 -ℤ pos m ≡ negsuc m
    less_one m = omega (arith, ints)

-- the order of two values by the numbers that they are made of
pub cmp_fields : (a b : ℤ) (d e : ℕ) (x y : ℚ) → AreLowest a d → AreLowest b e → ratio a (pos d) ≡ x → ratio b (pos e) ≡ y → int_cmp (a *ℤ pos e) (b *ℤ pos d) ≡ cmp_q x y
unfolding cmp_q
cmp_fields a b d e x y h k p q =
    let u = parts_of a d x h p in
    let v = parts_of b e y k q in
    rw (u.0, u.1, v.0, v.1) refl

-- a test that holds exactly where the two are one answers what `same_q` does
pub same_test : (x y : ℚ) (b : Bool) → IsTrue b ↔ (x ≡ y) → b ≡ same_q x y
same_test x y b h =
    both_ways b (same_q x y)
    (λ e. subst (λ z. same_q x z ≡ true) (h.0 e) (ap is_eq (cmp_self x)))
    (λ e. h.1 (cmp_equal x y ((Equal-is (cmp_q x y)).0 e)))
