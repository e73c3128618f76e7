-- The product of two fractions in lowest terms: each numerator is divided by what it has in common with the other's denominator.
use Rattle.std.specs.Prelude.{◌≡◌, ℕ, zero, suc, ◌*◌, ◌/◌, ◌<◌, ◌≤◌, ◌^◌, ℤ, pos, negsuc, neg_ℤ, ◌*ℤ◌, unsigned_abs}
use Rattle.std.proofs.Common.{arith, sym, ap, ◌∙◌}
use Rattle.std.proofs.lemmas.Int.{unsigned_abs-mul}
use native.Mathlib.Nat.{div-mul_cancel, mul-pos, mul-le-mul_left, mul-le-mul_right}
use Rattle.rational.specs.Gcd.{gcd}
use Rattle.rational.specs.Euclid.{gcd_is, lowest_after}
use Rattle.rational.specs.Ints.{diffs, diff_is, diff_same, neg_mul_z}
use Rattle.rational.specs.Rational.{int, ◌*ℚ◌, both}
use Rattle.rational.specs.Fractions.{frac-same}
use Rattle.rational.specs.Ratio.{ratio, with_sign, IsSmall}
use Rattle.rational.proofs.Integers.{int_mul}
use Rattle.rational.proofs.Parts.{sign_abs}
use Rattle.rational.proofs.Over.{mul_frac, both_is}
use Rattle.fraction128.specs.Parts.{AreLowest}
use Rattle.fraction128.proofs.Coprime.{coprime_turned, coprime_parts, coprime_mul, factor_some, part_divides}
use Rattle.fraction128.proofs.Values.{value_parts, small_of, whole_lowest}

sign_mul : (a b : ℤ) (n k : ℕ) → n * k ≡ unsigned_abs a * unsigned_abs b → with_sign a b n *ℤ pos k ≡ a *ℤ b
sign_mul (pos a) (pos b) n k e = ap pos e
sign_mul (pos a) (negsuc b) n k e = neg_mul_z (pos n) (pos k) ∙ ap (λ k. neg_ℤ (pos k)) e
sign_mul (negsuc a) (pos b) n k e = neg_mul_z (pos n) (pos k) ∙ ap (λ k. neg_ℤ (pos k)) e
sign_mul (negsuc a) (negsuc b) n k e = ap pos e

poly : (z w : ℤ) (m k n : ℕ) → z *ℤ pos k ≡ w → n ≡ m * k → z *ℤ pos n ≡ w *ℤ pos m
poly z w m k n p q = rw (← p, q, diff_is z) (simp diffs (diff_same _ _ _ _ (omega arith)))

product_frac : (z a b : ℤ) (m k d e : ℕ) → z *ℤ pos k ≡ a *ℤ b → d * e ≡ m * k → 0 < m → 0 < d → 0 < e
    → ratio z (pos m) ≡ ratio a (pos d) *ℚ ratio b (pos e)
product_frac z a b zero k d e p q x y w = absurd (omega arith)
product_frac z a b (suc m) k zero e p q x y w = absurd (omega arith)
product_frac z a b (suc m) k (suc d) zero p q x y w = absurd (omega arith)
product_frac z a b (suc m) k (suc d) (suc e) p q x y w =
    frac-same _ _ _ _ (poly z (a *ℤ b) (suc m) k (suc (both d e)) p (both_is d e ∙ q)) ∙ sym (mul_frac a d b e)

rearrange : (x g y h s t : ℕ) → x * g ≡ s → y * h ≡ t → x * y * (g * h) ≡ s * t
rearrange x g y h s t p q = rw (← p, ← q) (omega arith)

rearrange_bottom : (u h v g d e : ℕ) → u * h ≡ d → v * g ≡ e → d * e ≡ u * v * (g * h)
rearrange_bottom u h v g d e p q = rw (← p, ← q) (omega arith)

-- n and m are the size of the numerator and the denominator of the product in lowest terms
pub record IsProduct (a : ℤ) (d : ℕ) (b : ℤ) (e : ℕ) (n m : ℕ) : Type 0 where
  pub some : 0 < m
  pub lowest : gcd n m ≡ 1
  pub value : ratio (with_sign a b n) (pos m) ≡ ratio a (pos d) *ℚ ratio b (pos e)

-- the sizes of a fraction's numbers have nothing in common
product_lowest : (s t d e : ℕ) → gcd s d ≡ 1 → gcd t e ≡ 1 → 0 < d → 0 < e → gcd (s / gcd s e * (t / gcd t d)) (d / gcd t d * (e / gcd s e)) ≡ 1
product_lowest s t d e p q some_d some_e =
    let g = gcd s e in
    let h = gcd t d in
    let x = s / g in
    let y = t / h in
    let u = d / h in
    let v = e / g in
    let xs = part_divides s x g (div-mul_cancel _ (gcd_is s e).0) in
    let yt = part_divides t y h (div-mul_cancel _ (gcd_is t d).0) in
    let ud = part_divides d u h (div-mul_cancel _ (gcd_is t d).1) in
    let ve = part_divides e v g (div-mul_cancel _ (gcd_is s e).1) in
    let xu : gcd x u ≡ 1 = coprime_parts s d x u p xs ud in
    let xv : gcd x v ≡ 1 = lowest_after s e some_e in
    let yu : gcd y u ≡ 1 = lowest_after t d some_d in
    let yv : gcd y v ≡ 1 = coprime_parts t e y v q yt ve in
    let u_all : gcd u (x * y) ≡ 1 = coprime_mul u x y (coprime_turned x u xu) (coprime_turned y u yu) in
    let v_all : gcd v (x * y) ≡ 1 = coprime_mul v x y (coprime_turned x v xv) (coprime_turned y v yv) in
    coprime_mul (x * y) u v (coprime_turned u (x * y) u_all) (coprime_turned v (x * y) v_all)

pub product_sizes : (a b : ℤ) (d e : ℕ) → AreLowest a d → AreLowest b e
    → IsProduct a d b e (unsigned_abs a / gcd (unsigned_abs a) e * (unsigned_abs b / gcd (unsigned_abs b) d)) (d / gcd (unsigned_abs b) d * (e / gcd (unsigned_abs a) e))
product_sizes a b d e p q =
    let s = unsigned_abs a in
    let t = unsigned_abs b in
    let g = gcd s e in
    let h = gcd t d in
    let x : s / g * g ≡ s = div-mul_cancel _ (gcd_is s e).0 in
    let y : t / h * h ≡ t = div-mul_cancel _ (gcd_is t d).0 in
    let u : d / h * h ≡ d = div-mul_cancel _ (gcd_is t d).1 in
    let v : e / g * g ≡ e = div-mul_cancel _ (gcd_is s e).1 in
    let some : 0 < d / h * (e / g) = mul-pos (factor_some (d / h) h d u p.some) (factor_some (e / g) g e v q.some) in
    record {
      some = some;
      lowest = product_lowest s t d e p.lowest q.lowest p.some q.some;
      value = product_frac (with_sign a b (s / g * (t / h))) a b (d / h * (e / g)) (g * h) d e
          (sign_mul a b (s / g * (t / h)) (g * h) (rearrange (s / g) g (t / h) h s t x y))
          (rearrange_bottom (d / h) h (e / g) g d e u v) some p.some q.some;
    }

-- the same from the code's numbers
pub record ProductParts (a : ℤ) (d : ℕ) (b : ℤ) (e : ℕ) (left right first second x y u v : ℕ) : Type 0 where
  pub left_is : left ≡ unsigned_abs a
  pub right_is : right ≡ unsigned_abs b
  pub first_is : first ≡ gcd left e
  pub second_is : second ≡ gcd right d
  pub x_is : x ≡ left / first
  pub y_is : y ≡ right / second
  pub u_is : u ≡ d / second
  pub v_is : v ≡ e / first

pub product_parts : (a b : ℤ) (d e left right first second x y u v : ℕ) → AreLowest a d → AreLowest b e → ProductParts a d b e left right first second x y u v
    → IsProduct a d b e (x * y) (u * v)
product_parts a b d e left right first second x y u v p q c =
    rw (c.x_is, c.y_is, c.u_is, c.v_is, c.first_is, c.second_is, c.left_is, c.right_is) (product_sizes a b d e p q)

pub product_small : (a b : ℤ) (d e n m : ℕ) → IsProduct a d b e n m → IsSmall (ratio a (pos d) *ℚ ratio b (pos e)) → (n < 2 ^ 127) × (m < 2 ^ 127)
product_small a b d e n m is h =
    let z = with_sign a b n in
    let size : unsigned_abs z ≡ n = sign_abs a b n in
    let parts = value_parts z m _ is.some (rw size is.lowest) is.value in
    (rw (← size, ← parts.0) h.top, rw (← parts.1) h.bottom)

pub small_product : (a b : ℤ) (d e n m : ℕ) → IsProduct a d b e n m → n < 2 ^ 127 → m < 2 ^ 127 → IsSmall (ratio a (pos d) *ℚ ratio b (pos e))
small_product a b d e n m is p q =
    let z = with_sign a b n in
    let size : unsigned_abs z ≡ n = sign_abs a b n in
    let parts = value_parts z m _ is.some (rw size is.lowest) is.value in
    record { top = rw (parts.0, size) p; bottom = rw parts.1 q }

pub product_as_lowest : (a b : ℤ) (d e n m : ℕ) (z : ℤ) → IsProduct a d b e n m → n < 2 ^ 127 → m < 2 ^ 127 → z ≡ with_sign a b n → AreLowest z m
product_as_lowest a b d e n m z is p q s =
    let size : unsigned_abs z ≡ n = ap unsigned_abs s ∙ sign_abs a b n in
    record { some = is.some; top = rw size p; bottom = q; lowest = rw size is.lowest }

-- ---- whole numbers
pub short_product : (a b : ℤ) → unsigned_abs a < 2 ^ 63 → unsigned_abs b < 2 ^ 63 → unsigned_abs (a *ℤ b) < 2 ^ 127
short_product a b p q =
    let m = unsigned_abs a in
    let n = unsigned_abs b in
    let less : n ≤ 2 ^ 63 = omega arith in
    let other : m ≤ 2 ^ 63 = omega arith in
    let one : m * n ≤ m * 2 ^ 63 = mul-le-mul_left m less in
    let two : m * 2 ^ 63 ≤ 2 ^ 63 * 2 ^ 63 = mul-le-mul_right (2 ^ 63) other in
    rw (unsigned_abs-mul a b) (omega (arith, one, two))

pub whole_product : (a b z : ℤ) (d e : ℕ) → d ≡ 1 → e ≡ 1 → unsigned_abs z < 2 ^ 127 → z ≡ a *ℤ b
    → (int z ≡ ratio a (pos d) *ℚ ratio b (pos e)) × IsSmall (ratio a (pos d) *ℚ ratio b (pos e))
whole_product a b z d e p q h s =
    let is : int z ≡ ratio a (pos d) *ℚ ratio b (pos e) = rw (p, q, s) (sym (int_mul a b)) in
    (is, small_of z 1 _ (whole_lowest z h) is)
