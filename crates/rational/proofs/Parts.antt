-- The parts of a quotient of two integers, and what a program that divides both by a common divisor has.
use Rattle.std.specs.Prelude.{◌≡◌, ◌≢◌, ℕ, zero, suc, ◌*◌, ◌/◌, ◌<◌, ◌^◌, ℤ, pos, negsuc, ◌*ℤ◌, neg_ℤ, nat_abs}
use Rattle.std.proofs.Common.{arith, sym, ap, ◌∙◌, refl, subst}
use native.Mathlib.Nat.{zero-lt-suc, div-le_self}
use Rattle.rational.specs.Gcd.{gcd}
use Rattle.rational.specs.Euclid.{gcd_is, lowest_after}
use Rattle.rational.specs.Rational.{ℚ, frac, den}
use Rattle.rational.specs.Fractions.{frac_self, frac-same, make}
use Rattle.rational.specs.Lowest.{abs-neg, div-abs, quotient_pos}
use Rattle.rational.specs.Ints.{diffs, diff_is, diff_same, neg_mul_z}
use Rattle.rational.specs.Ratio.{ratio, IsSmall, with_sign}

-- ---- the parts
frac_parts : (a : ℤ) (d : ℕ)
    → (nat_abs (frac a d).num ≡ nat_abs a / gcd (nat_abs a) (suc d)) × (den (frac a d) ≡ suc d / gcd (nat_abs a) (suc d))
unfolding frac
frac_parts a d =
    let g = gcd (nat_abs a) (suc d) in
    let some = quotient_pos d g (gcd_is (nat_abs a) (suc d)).1 in
    (div-abs a g, omega arith)

pub neg-abs : (a : ℤ) → nat_abs (neg_ℤ a) ≡ nat_abs a
neg-abs (pos zero) = refl
neg-abs (pos (suc n)) = refl
neg-abs (negsuc n) = refl

pub ratio_parts : (a b : ℤ) → b ≢ pos 0
    → (nat_abs (ratio a b).num ≡ nat_abs a / gcd (nat_abs a) (nat_abs b)) × (den (ratio a b) ≡ nat_abs b / gcd (nat_abs a) (nat_abs b))
ratio_parts a (pos zero) h = absurd (h refl)
ratio_parts a (pos (suc d)) h = frac_parts a d
ratio_parts a (negsuc d) h =
    subst (λ n. (nat_abs (frac (neg_ℤ a) d).num ≡ n / gcd n (suc d)) × (den (frac (neg_ℤ a) d) ≡ suc d / gcd n (suc d))) (neg-abs a) (frac_parts (neg_ℤ a) d)

-- a fraction in lowest terms keeps its parts
pub lowest_parts : (a : ℤ) (d : ℕ) → gcd (nat_abs a) (suc d) ≡ 1 → ((frac a d).num ≡ a) × ((frac a d).pre ≡ d)
lowest_parts a d h =
    let X : ℚ = make a d h in
    let e : X ≡ frac a d = frac_self X in
    (ap (λ x. x.num) (sym e), ap (λ x. x.pre) (sym e))

-- dividing both sizes by their greatest common divisor changes nothing
scaled_same : (z a : ℤ) (d e g : ℕ) → z *ℤ pos g ≡ a → suc d * g ≡ suc e → frac z d ≡ frac a e
scaled_same z a d e g p q =
    frac-same _ _ _ _ (rw (← p, ← q, diff_is z) (simp diffs (diff_same _ _ _ _ (omega arith))))

sign_back : (a b : ℤ) (n g : ℕ) → n * g ≡ nat_abs a → (with_sign a b n *ℤ pos g ≡ with_sign a b (nat_abs a))
sign_back (pos a) (pos b) n g e = ap pos e
sign_back (pos a) (negsuc b) n g e = neg_mul_z (pos n) (pos g) ∙ ap (λ k. neg_ℤ (pos k)) e
sign_back (negsuc a) (pos b) n g e = neg_mul_z (pos n) (pos g) ∙ ap (λ k. neg_ℤ (pos k)) e
sign_back (negsuc a) (negsuc b) n g e = ap pos e

pub sign_abs : (a b : ℤ) (n : ℕ) → nat_abs (with_sign a b n) ≡ n
sign_abs (pos a) (pos b) n = refl
sign_abs (pos a) (negsuc b) n = abs-neg n
sign_abs (negsuc a) (pos b) n = abs-neg n
sign_abs (negsuc a) (negsuc b) n = refl

sign_self_pos : (a : ℤ) (d : ℕ) → with_sign a (pos d) (nat_abs a) ≡ a
sign_self_pos (pos a) d = refl
sign_self_pos (negsuc a) d = refl

sign_self_neg : (a : ℤ) (d : ℕ) → with_sign a (negsuc d) (nat_abs a) ≡ neg_ℤ a
sign_self_neg (pos a) d = refl
sign_self_neg (negsuc a) d = refl

reduced_from : (z a : ℤ) (d e g : ℕ) → z *ℤ pos g ≡ a → d * g ≡ suc e → ratio z (pos d) ≡ frac a e
reduced_from z a zero e g p q = absurd (omega arith)
reduced_from z a (suc d) e g p q = scaled_same z a d e g p q

-- what a program that reduces has: the signed quotient of the sizes over the quotient of the denominator
pub reduced_ratio : (a b : ℤ) (n d g : ℕ) → b ≢ pos 0 → n * g ≡ nat_abs a → d * g ≡ nat_abs b
    → ratio (with_sign a b n) (pos d) ≡ ratio a b
reduced_ratio a (pos zero) n d g h p q = absurd (h refl)
reduced_ratio a (pos (suc e)) n d g h p q =
    reduced_from (with_sign a (pos (suc e)) n) a d e g (sign_back a (pos (suc e)) n g p ∙ sign_self_pos a (suc e)) q
reduced_ratio a (negsuc e) n d g h p q =
    reduced_from (with_sign a (negsuc e) n) (neg_ℤ a) d e g (sign_back a (negsuc e) n g p ∙ sign_self_neg a e) q

pub abs_some : (b : ℤ) → b ≢ pos 0 → 0 < nat_abs b
abs_some (pos zero) h = absurd (h refl)
abs_some (pos (suc n)) h = zero-lt-suc n
abs_some (negsuc n) h = zero-lt-suc n

pub reduced_lowest : (a b : ℤ) (g : ℕ) → b ≢ pos 0 → g ≡ gcd (nat_abs a) (nat_abs b)
    → gcd (nat_abs (with_sign a b (nat_abs a / g))) (nat_abs b / g) ≡ 1
reduced_lowest a b g h e =
    rw (e, sign_abs a b (nat_abs a / gcd (nat_abs a) (nat_abs b))) (lowest_after (nat_abs a) (nat_abs b) (abs_some b h))

pub small_ratio : (a b : ℤ) → b ≢ pos 0 → nat_abs a < 2 ^ 127 → nat_abs b < 2 ^ 127 → IsSmall (ratio a b)
small_ratio a b h p q =
    let parts = ratio_parts a b h in
    let g = gcd (nat_abs a) (nat_abs b) in
    let x = div-le_self (nat_abs a) g in
    let y = div-le_self (nat_abs b) g in
    record { top = omega (arith, parts, x); bottom = omega (arith, parts, y) }
