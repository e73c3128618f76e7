-- The sum of two fractions in lowest terms over the least common denominator: what it still has in common with
-- that denominator divides what the two denominators have in common.
use Rattle.std.specs.Prelude.{◌≡◌, Option, Some, None, MatchOption, ℕ, suc, ◌+◌, ◌*◌, ◌-◌, ◌/◌, ◌<◌, ◌≤◌, ◌^◌, ℤ, pos, negsuc, ◌+ℤ◌, ◌*ℤ◌, unsigned_abs}
use Rattle.std.proofs.Common.{arith, sym, ap, ap₂, ◌∙◌, subst, refl, ◌⊎◌, inl, inr, SFits, to_z}
use Rattle.std.proofs.lemmas.Bool.{cases_lt}
use Rattle.std.proofs.lemmas.Int.{ints, unsigned_abs-mul, to_z_pos, fits_signed_from_abs}
use mir.Syntax.{w128}
use Prim.Native.Nat.{◌∣◌}
use native.Mathlib.Nat.{div-mul_cancel, mul-pos, mul_assoc, dvd_trans, dvd-mul_left, dvd_refl, dvd-add, dvd-sub, div-le_self, mul-le-mul_left, mul-le-mul_right, mul-div_cancel}
use Rattle.rational.specs.Gcd.{gcd}
use Rattle.rational.specs.Euclid.{gcd_is, gcd_pos, lowest_after}
use Rattle.rational.specs.Rational.{ℚ, int, ◌+ℚ◌}
use Rattle.rational.proofs.Integers.{int_add}
use Rattle.rational.specs.Fractions.{abs-mul}
use Rattle.rational.specs.Ratio.{ratio, with_sign, PartsFit, SumFits}
use Rattle.rational.proofs.Parts.{sign_abs, reduced_ratio}
use Rattle.rational.proofs.Lcd.{lcd_ratio}
use Rattle.fraction128.specs.Parts.{AreLowest}
use Rattle.fraction128.proofs.Coprime.{gcd_one, coprime_in, coprime_out, coprime_turned, coprime_parts, coprime_mul, divides_rest, factor_some, part_divides}
use Rattle.fraction128.proofs.Values.{parts_of, one_sign}

-- a divisor of a sum and of one part divides the other
other_part : (x y : ℤ) (k : ℕ) → k ∣ unsigned_abs (x +ℤ y) → k ∣ unsigned_abs y → k ∣ unsigned_abs x
other_part x y k p q =
    let total = unsigned_abs (x +ℤ y) in
    let part = unsigned_abs y in
    pick (unsigned_abs x) total part (size x y) p q
  where
    size : (x y : ℤ) → (unsigned_abs x ≡ unsigned_abs (x +ℤ y) + unsigned_abs y) ⊎ ((unsigned_abs x ≡ unsigned_abs (x +ℤ y) - unsigned_abs y) ⊎ (unsigned_abs x ≡ unsigned_abs y - unsigned_abs (x +ℤ y)))
    size (pos m) (pos n) = inr (inl (omega (arith, ints)))
    size (pos m) (negsuc n) = elim (cases_lt m (suc n)) [
      | inl h ↦ inr (inr (omega (arith, ints)))
      | inr h ↦ inl (omega (arith, ints))
    ]
    size (negsuc m) (pos n) = elim (cases_lt m n) [
      | inl h ↦ inr (inr (omega (arith, ints)))
      | inr h ↦ inl (omega (arith, ints))
    ]
    size (negsuc m) (negsuc n) = inr (inl (omega (arith, ints)))

    pick : (x t y : ℕ) → (x ≡ t + y) ⊎ ((x ≡ t - y) ⊎ (x ≡ y - t)) → k ∣ t → k ∣ y → k ∣ x
    pick x t y (inl e) p q = rw e (dvd-add k p q)
    pick x t y (inr (inl e)) p q = rw e (dvd-sub k p q)
    pick x t y (inr (inr e)) p q = rw e (dvd-sub k q p)

-- a v + b u has nothing in common with u, where a has nothing in common with it and v neither
cross_lowest : (a b : ℤ) (u v : ℕ) → gcd (unsigned_abs a) u ≡ 1 → gcd u v ≡ 1 → gcd (unsigned_abs (a *ℤ pos v +ℤ b *ℤ pos u)) u ≡ 1
cross_lowest a b u v p q =
    coprime_in _ u (λ k r s.
    let by_right : k ∣ unsigned_abs (b *ℤ pos u) = rw (abs-mul b u) (dvd_trans k s (dvd-mul_left u (unsigned_abs b))) in
    let by_left : k ∣ unsigned_abs a * v = subst (λ n. k ∣ n) (abs-mul a v) (other_part (a *ℤ pos v) (b *ℤ pos u) k r by_right) in
    let by_v : k ∣ v = divides_rest (unsigned_abs a) v k (coprime_parts (unsigned_abs a) u (unsigned_abs a) k p (dvd_refl (unsigned_abs a)) s) by_left in
    coprime_out u v k q s by_v)

sum_turned : (x y : ℤ) → x +ℤ y ≡ y +ℤ x
sum_turned x y = omega (arith, ints)

quotient_of : (q h n : ℕ) → 0 < h → q * h ≡ n → n / h ≡ q
quotient_of q h n some e = rw (← e) (mul-div_cancel q some)

-- n and m are the size of the numerator t and the denominator of the sum in lowest terms
pub record IsSum (a : ℤ) (d : ℕ) (b : ℤ) (e : ℕ) (t : ℤ) (n m : ℕ) : Type 0 where
  pub some : 0 < m
  pub lowest : gcd n m ≡ 1
  pub value : ratio (with_sign t (pos 1) n) (pos m) ≡ ratio a (pos d) +ℚ ratio b (pos e)
  pub below : m ≤ d / gcd d e * e
  pub less : n ≤ unsigned_abs t

sum_sizes : (a b : ℤ) (d e u v g h : ℕ) (t : ℤ) → AreLowest a d → AreLowest b e → g ≡ gcd d e → u ≡ d / g → v ≡ e / g → t ≡ a *ℤ pos v +ℤ b *ℤ pos u → h ≡ gcd (unsigned_abs t) g
    → IsSum a d b e t (unsigned_abs t / h) (u * (e / h))
sum_sizes a b d e u v g h t p q g_is u_is v_is t_is h_is =
    let s = unsigned_abs t in
    let some_g : 0 < g = rw g_is (gcd_pos d e q.some) in
    let some_h : 0 < h = rw h_is (gcd_pos s g some_g) in
    let ud : u * g ≡ d = rw (u_is, g_is) (div-mul_cancel _ (gcd_is d e).0) in
    let ve : v * g ≡ e = rw (v_is, g_is) (div-mul_cancel _ (gcd_is d e).1) in
    let uv : gcd u v ≡ 1 = rw (u_is, v_is, g_is) (lowest_after d e q.some) in
    let some_u : 0 < u = factor_some u g d ud p.some in
    let some_v : 0 < v = factor_some v g e ve q.some in
    let f = g / h in
    let fg : f * h ≡ g = rw h_is (div-mul_cancel _ (gcd_is s g).1) in
    let ns : s / h * h ≡ s = rw h_is (div-mul_cancel _ (gcd_is s g).0) in
    let back : v * f * h ≡ e = nested v f h g e fg ve in
    let eh : e / h ≡ v * f = quotient_of (v * f) h e some_h back in
    let some_f : 0 < f = factor_some f h g fg some_g in
    let some : 0 < u * (e / h) = rw eh (mul-pos some_u (mul-pos some_v some_f)) in
    let to_u : gcd s u ≡ 1 = rw t_is (cross_lowest a b u v (coprime_parts (unsigned_abs a) d (unsigned_abs a) u p.lowest (dvd_refl (unsigned_abs a)) (part_divides d u g ud)) uv) in
    let t_turned : t ≡ b *ℤ pos u +ℤ a *ℤ pos v = t_is ∙ sum_turned (a *ℤ pos v) (b *ℤ pos u) in
    let to_v : gcd s v ≡ 1 = rw t_turned (cross_lowest b a v u (coprime_parts (unsigned_abs b) e (unsigned_abs b) v q.lowest (dvd_refl (unsigned_abs b)) (part_divides e v g ve)) (coprime_turned u v uv)) in
    let n = s / h in
    let n_s : n ∣ s = part_divides s n h ns in
    let n_u : gcd n u ≡ 1 = coprime_parts s u n u to_u n_s (dvd_refl u) in
    let n_v : gcd n v ≡ 1 = coprime_parts s v n v to_v n_s (dvd_refl v) in
    let n_f : gcd n f ≡ 1 = rw h_is (lowest_after s g some_g) in
    let whole : 0 < u * e = mul-pos some_u q.some in
    let up : u * (e / h) * h ≡ u * e = rw eh (nested_up u v f h e back) in
    record {
      some = some;
      lowest = rw eh (coprime_mul n u (v * f) n_u (coprime_mul n v f n_v n_f));
      value = ap (λ z. ratio z (pos (u * (e / h)))) (one_sign t (u * e) n)
          ∙ reduced_ratio t (pos (u * e)) n (u * (e / h)) h (λ z. omega (arith, ints, z, whole)) ns up
          ∙ ap (λ z. ratio z (pos (u * e))) t_is
          ∙ lcd_ratio a b u v g d e (u * e) (sym ud) (sym ve) refl p.some q.some whole;
      below = rw (← g_is, ← u_is) (mul-le-mul_left u (div-le_self e h));
      less = div-le_self s h;
    }
  where
    nested : (v f h g e : ℕ) → f * h ≡ g → v * g ≡ e → v * f * h ≡ e
    nested v f h g e p q = rw (← q, ← p) (mul_assoc v f h)

    nested_up : (u v f h e : ℕ) → v * f * h ≡ e → u * (v * f) * h ≡ u * e
    nested_up u v f h e p = rw (← p) (mul_assoc u (v * f) h)

-- the same from the code's numbers
pub record SumParts (a : ℤ) (d : ℕ) (b : ℤ) (e : ℕ) (common share other : ℕ) (left right sum : ℤ) (again size rest : ℕ) : Type 0 where
  pub common_is : common ≡ gcd d e
  pub share_is : share ≡ d / common
  pub other_is : other ≡ e / common
  pub left_is : left ≡ a *ℤ pos other
  pub right_is : right ≡ b *ℤ pos share
  pub sum_is : sum ≡ left +ℤ right
  pub again_is : again ≡ gcd (unsigned_abs sum) common
  pub size_is : size ≡ unsigned_abs sum / again
  pub rest_is : rest ≡ e / again

pub sum_parts : (a b : ℤ) (d e common share other : ℕ) (left right sum : ℤ) (again size rest : ℕ) → AreLowest a d → AreLowest b e
    → SumParts a d b e common share other left right sum again size rest → IsSum a d b e sum size (share * rest)
sum_parts a b d e common share other left right sum again size rest p q c =
    rw (c.size_is, c.rest_is) (sum_sizes a b d e share other common again sum p q c.common_is c.share_is c.other_is (c.sum_is ∙ ap₂ (λ (x y : ℤ). x +ℤ y) c.left_is c.right_is) c.again_is)

-- ---- numbers below 2 ^ 63: their cross products and the sum of these fit
times_small : (a : ℤ) (v : ℕ) → unsigned_abs a < 2 ^ 63 → v < 2 ^ 63 → unsigned_abs (a *ℤ pos v) < 2 ^ 126
times_small a v p q =
    let m = unsigned_abs a in
    let less : v ≤ 2 ^ 63 - 1 = omega arith in
    let other : m ≤ 2 ^ 63 - 1 = omega arith in
    let one : m * v ≤ m * (2 ^ 63 - 1) = mul-le-mul_left m less in
    let two : m * (2 ^ 63 - 1) ≤ (2 ^ 63 - 1) * (2 ^ 63 - 1) = mul-le-mul_right (2 ^ 63 - 1) other in
    rw (unsigned_abs-mul a (pos v)) (omega (arith, one, two))

abs_sum : (x y : ℤ) (k : ℕ) → unsigned_abs x < k → unsigned_abs y < k → unsigned_abs (x +ℤ y) < k + k
abs_sum (pos m) (pos n) k p q = omega (arith, ints, p, q)
abs_sum (pos m) (negsuc n) k p q = elim (cases_lt m (suc n)) [
  | inl h ↦ omega (arith, ints, p, q, h)
  | inr h ↦ omega (arith, ints, p, q, h)
]
abs_sum (negsuc m) (pos n) k p q = elim (cases_lt m n) [
  | inl h ↦ omega (arith, ints, p, q, h)
  | inr h ↦ omega (arith, ints, p, q, h)
]
abs_sum (negsuc m) (negsuc n) k p q = omega (arith, ints, p, q)

-- each of them is the number itself in 128 bits
pub record CrossFits (a b : ℤ) (v u : ℕ) : Type 0 where
  pub left_factor : to_z w128 v ≡ pos v
  pub right_factor : to_z w128 u ≡ pos u
  pub left : SFits w128 (a *ℤ pos v)
  pub right : SFits w128 (b *ℤ pos u)
  pub sum : SFits w128 (a *ℤ pos v +ℤ b *ℤ pos u)
  pub size : unsigned_abs (a *ℤ pos v +ℤ b *ℤ pos u) < 2 ^ 127

pub cross_fits : (a b : ℤ) (v u : ℕ) → unsigned_abs a < 2 ^ 63 → v < 2 ^ 63 → unsigned_abs b < 2 ^ 63 → u < 2 ^ 63 → CrossFits a b v u
cross_fits a b v u p q r s =
    let x = times_small a v p q in
    let y = times_small b u r s in
    let sum = abs_sum (a *ℤ pos v) (b *ℤ pos u) (2 ^ 126) x y in
    let size : unsigned_abs (a *ℤ pos v +ℤ b *ℤ pos u) < 2 ^ 127 = omega (arith, sum) in
    record {
      left_factor = to_z_pos w128 v (omega arith);
      right_factor = to_z_pos w128 u (omega arith);
      left = fits_signed_from_abs w128 (a *ℤ pos v) (omega (arith, x));
      right = fits_signed_from_abs w128 (b *ℤ pos u) (omega (arith, y));
      sum = fits_signed_from_abs w128 _ size;
      size = size;
    }

-- the sum of the cross products is too wide
pub sum_wide : (a b left right sum : ℤ) (d e common share other : ℕ) → common ≡ gcd d e → share ≡ d / common → other ≡ e / common
    → left ≡ a *ℤ pos other → right ≡ b *ℤ pos share → sum ≡ left +ℤ right → 2 ^ 127 ≤ unsigned_abs sum → ¬ (PartsFit a d b e)
sum_wide a b left right sum d e common share other g_is u_is v_is l r s h fit =
    let is : sum ≡ a *ℤ pos (e / gcd d e) +ℤ b *ℤ pos (d / gcd d e) = s ∙ rw (← g_is, ← u_is, ← v_is) (ap₂ (λ (x y : ℤ). x +ℤ y) l r) in
    let small : unsigned_abs sum < 2 ^ 127 = rw is fit.sum in
    omega arith

pub sum_as_lowest : (a b : ℤ) (d e : ℕ) (t : ℤ) (n m : ℕ) (z : ℤ) → IsSum a d b e t n m → n < 2 ^ 127 → m < 2 ^ 127 → z ≡ with_sign t (pos 1) n → AreLowest z m
sum_as_lowest a b d e t n m z is p q s =
    let size : unsigned_abs z ≡ n = ap unsigned_abs s ∙ sign_abs t (pos 1) n in
    record { some = is.some; top = rw size p; bottom = q; lowest = rw size is.lowest }

-- what fits two values fits the numbers that they are made of
pub fits_fields : (n m : ℤ) (d e : ℕ) (x y : ℚ) → AreLowest n d → AreLowest m e → ratio n (pos d) ≡ x → ratio m (pos e) ≡ y → SumFits x y → PartsFit n d m e
fits_fields n m d e x y h k p q fit =
    let u = parts_of n d x h p in
    let v = parts_of m e y k q in
    rw (← u.0, ← u.1, ← v.0, ← v.1) fit

-- ---- whole numbers
pub whole_wide : (a b : ℤ) (d e : ℕ) → d ≡ 1 → e ≡ 1 → 2 ^ 127 ≤ unsigned_abs (a +ℤ b) → ¬ (PartsFit a d b e)
whole_wide a b d e p q h fit =
    let is : a *ℤ pos (e / gcd d e) +ℤ b *ℤ pos (d / gcd d e) ≡ a +ℤ b = rw (p, q, gcd_one 1) (ones a b) in
    let small : unsigned_abs (a +ℤ b) < 2 ^ 127 = rw (← is) fit.sum in
    omega arith
  where
    ones : (a b : ℤ) → a *ℤ pos 1 +ℤ b *ℤ pos 1 ≡ a +ℤ b
    ones a b = omega (arith, ints)

pub whole_parts : (a b : ℤ) (d e : ℕ) (r : Option ℚ) → d ≡ 1 → e ≡ 1 → MatchOption r (2 ^ 127 ≤ unsigned_abs (a +ℤ b)) (λ f. f ≡ int (a +ℤ b))
    → MatchOption r (¬ (PartsFit a d b e)) (λ f. f ≡ ratio a (pos d) +ℚ ratio b (pos e))
whole_parts a b d e None p q h = whole_wide a b d e p q h
whole_parts a b d e (Some f) p q h = rw (p, q) (h ∙ sym (int_add a b))
