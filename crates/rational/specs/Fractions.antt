-- Fractions: equality and order are those of the cross products, and each number is the fraction of its parts.
use Rattle.std.specs.Prelude.{◌≡◌, ℕ, suc, ◌+◌, ◌*◌, ◌/◌, ◌-◌, ◌<◌, ℤ, pos, negsuc, ◌*ℤ◌, neg_ℤ}
use Rattle.std.specs.Prelude.{nat_abs, int_div}
use Rattle.std.proofs.Common.{arith, sym, ap, ◌∙◌, refl, subst, ap₂}
use Prim.Native.Nat.{◌∣◌}
use native.Mathlib.Nat.{ℕ_set, zero-lt-suc, div-mul_cancel}
use Rattle.rational.specs.Gcd.{gcd}
use Rattle.rational.specs.Euclid.{gcd_is, gcd_pos, lowest_unique}
use Rattle.rational.specs.Lowest.{abs-neg, quotient_pos}
use Rattle.rational.specs.Rational.{ℚ, frac}
use Rattle.rational.specs.Ints.{diffs, diff_is, diff_same, mul_assoc_z, neg_mul_z, same_unscale_z}

-- ---- equal parts, equal numbers
-- the number of two parts that are in lowest terms
abbrev pub make : (n : ℤ) (d : ℕ) → gcd (nat_abs n) (suc d) ≡ 1 → ℚ
make n d h = record { num = n; pre = d; lowest = h }

same_make : (n m : ℤ) (d e : ℕ) (p : gcd (nat_abs n) (suc d) ≡ 1) (q : gcd (nat_abs m) (suc e) ≡ 1) → n ≡ m → d ≡ e
    → make n d p ≡ make m e q
same_make n m d e p q f g =
    let one : (r : gcd (nat_abs n) (suc d) ≡ 1) → make n d p ≡ make n d r = λ r. ap (make n d) (ℕ_set _ _ p r) in
    let two : (r : gcd (nat_abs n) (suc e) ≡ 1) → make n d p ≡ make n e r =
    subst (λ k. (r : gcd (nat_abs n) (suc k) ≡ 1) → make n d p ≡ make n k r) g one in
    subst (λ z. (r : gcd (nat_abs z) (suc e) ≡ 1) → make n d p ≡ make z e r) f two q

pub same_parts : (x y : ℚ) → x.num ≡ y.num → x.pre ≡ y.pre → x ≡ y
same_parts x y e f = same_make x.num y.num x.pre y.pre x.lowest y.lowest e f

-- ---- what was divided out
pub div_back : (a : ℤ) (g : ℕ) → g ∣ nat_abs a → int_div a (pos g) *ℤ pos g ≡ a
div_back (pos n) g h = ap pos (div-mul_cancel g h)
div_back (negsuc n) g h =
    neg_mul_z (pos (suc n / g)) (pos g) ∙ ap (λ k. neg_ℤ (pos k)) (div-mul_cancel g h)

pub frac_is : (a : ℤ) (d : ℕ) → (k : ℕ) × (a ≡ (frac a d).num *ℤ pos (suc k)) × (suc d ≡ suc (frac a d).pre * suc k)
unfolding frac
frac_is a d =
    let g = gcd (nat_abs a) (suc d) in
    let is = gcd_is (nat_abs a) (suc d) in
    let some : 0 < g = gcd_pos (nat_abs a) (suc d) (zero-lt-suc d) in
    let back : suc (g - 1) ≡ g = omega arith in
    let some_q = quotient_pos d g is.1 in
    let back_q : suc (suc d / g - 1) ≡ suc d / g = omega arith in
    (g - 1, rw back (sym (div_back a g is.0)), rw (back, back_q) (sym (div-mul_cancel g is.1)))

-- the cross product, of which the order and equality are made
abbrev pub cross : ℚ → ℚ → ℤ
cross x y = x.num *ℤ pos (suc y.pre)

mul4 : (a : ℤ) (k d l : ℕ) → (a *ℤ pos k) *ℤ pos (d * l) ≡ (a *ℤ pos d) *ℤ pos (k * l)
mul4 a k d l = rw (diff_is a) (simp diffs (diff_same _ _ _ _ (omega arith)))

-- two fractions' cross products, scaled by one factor
pub scaled : (a : ℤ) (d : ℕ) (b : ℤ) (e : ℕ)
    → (m : ℕ) × (a *ℤ pos (suc e) ≡ cross (frac a d) (frac b e) *ℤ pos (suc m))
    × (b *ℤ pos (suc d) ≡ cross (frac b e) (frac a d) *ℤ pos (suc m))
scaled a d b e =
    let (k, p, q) = frac_is a d in
    let (l, r, t) = frac_is b e in
    let m : suc k * suc l ≡ suc (k * l + k + l) = omega arith in
    let m2 : suc l * suc k ≡ suc (k * l + k + l) = omega arith in
    let X = frac a d in
    let Y = frac b e in
    let left : a *ℤ pos (suc e) ≡ (X.num *ℤ pos (suc k)) *ℤ pos (suc Y.pre * suc l) =
    ap₂ (λ (x : ℤ) (n : ℕ). x *ℤ pos n) p t in
    let right : b *ℤ pos (suc d) ≡ (Y.num *ℤ pos (suc l)) *ℤ pos (suc X.pre * suc k) =
    ap₂ (λ (x : ℤ) (n : ℕ). x *ℤ pos n) r q in (
      k * l + k + l,
      left ∙ mul4 X.num (suc k) (suc Y.pre) (suc l) ∙ ap (λ n. cross X Y *ℤ pos n) m,
      right ∙ mul4 Y.num (suc l) (suc X.pre) (suc k) ∙ ap (λ n. cross Y X *ℤ pos n) m2,
    )

-- equal cross products, equal fractions
pub abs-mul : (a : ℤ) (k : ℕ) → nat_abs (a *ℤ pos k) ≡ nat_abs a * k
abs-mul (pos n) k = refl
abs-mul (negsuc n) k = abs-neg (suc n * k)

pub same_from_cross : (x y : ℚ) → cross x y ≡ cross y x → x ≡ y
same_from_cross x y e =
    let abs : nat_abs x.num * suc y.pre ≡ nat_abs y.num * suc x.pre =
    sym (abs-mul x.num (suc y.pre)) ∙ ap nat_abs e ∙ abs-mul y.num (suc x.pre) in
    let both = lowest_unique (nat_abs x.num) (suc x.pre) (nat_abs y.num) (suc y.pre)
    (zero-lt-suc x.pre) (zero-lt-suc y.pre) x.lowest y.lowest abs in
    let pre : x.pre ≡ y.pre = omega arith in
    same_parts x y (same_unscale_z x.num y.num y.pre (e ∙ ap (λ k. y.num *ℤ pos (suc k)) pre)) pre

-- what `≡` means for two fractions, by their cross products
pub frac-same : (a : ℤ) (d : ℕ) (b : ℤ) (e : ℕ) → a *ℤ pos (suc e) ≡ b *ℤ pos (suc d) → frac a d ≡ frac b e
frac-same a d b e h =
    let (m, p, q) = scaled a d b e in
    same_from_cross (frac a d) (frac b e) (same_unscale_z _ _ m (sym p ∙ h ∙ q))

pub frac-same_out : (a : ℤ) (d : ℕ) (b : ℤ) (e : ℕ) → frac a d ≡ frac b e → a *ℤ pos (suc e) ≡ b *ℤ pos (suc d)
frac-same_out a d b e h =
    let (m, p, q) = scaled a d b e in
    p ∙ ap (λ z. z *ℤ pos (suc m)) (ap₂ (λ (x y : ℚ). cross x y) h (sym h)) ∙ sym q

pub frac_self : (x : ℚ) → x ≡ frac x.num x.pre
frac_self x =
    let (k, p, q) = frac_is x.num x.pre in
    let X = frac x.num x.pre in
    let left : cross x X ≡ (X.num *ℤ pos (suc k)) *ℤ pos (suc X.pre * 1) =
    ap₂ (λ (z : ℤ) (n : ℕ). z *ℤ pos n) p (omega arith) in
    let one : (X.num *ℤ pos (suc X.pre)) *ℤ pos (suc k * 1) ≡ (X.num *ℤ pos (suc X.pre)) *ℤ pos (suc k) =
    ap (λ n. (X.num *ℤ pos (suc X.pre)) *ℤ pos n) (omega arith) in
    let right : (X.num *ℤ pos (suc X.pre)) *ℤ pos (suc k) ≡ cross X x =
    mul_assoc_z X.num (pos (suc X.pre)) (pos (suc k)) ∙ ap (λ n. X.num *ℤ pos n) (sym q) in
    same_from_cross x X (left ∙ mul4 X.num (suc k) (suc X.pre) 1 ∙ one ∙ right)
