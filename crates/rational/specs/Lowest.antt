-- What is left of a numerator and a denominator once both are divided by their greatest common divisor is in lowest
-- terms.
use Rattle.std.specs.Prelude.{◌≡◌, ℕ, zero, suc, ◌*◌, ◌/◌, ◌-◌, ◌<◌, ℤ, pos, negsuc, neg_ℤ}
use Rattle.std.specs.Prelude.{nat_abs, int_div}
use Rattle.std.proofs.Common.{arith, refl}
use Prim.Native.Nat.{◌∣◌}
use native.Mathlib.Nat.{zero-lt-suc, div-mul_cancel}
use Rattle.rational.specs.Gcd.{gcd}
use Rattle.rational.specs.Euclid.{gcd_is, lowest_after}

pub abs-neg : (n : ℕ) → nat_abs (neg_ℤ (pos n)) ≡ n
abs-neg zero = refl
abs-neg (suc n) = refl

pub div-abs : (a : ℤ) (g : ℕ) → nat_abs (int_div a (pos g)) ≡ nat_abs a / g
div-abs (pos n) g = refl
div-abs (negsuc n) g = abs-neg (suc n / g)

pub quotient_pos : (d g : ℕ) → g ∣ suc d → 0 < suc d / g
quotient_pos d g h =
    let e : suc d / g * g ≡ suc d = div-mul_cancel g h in
    quotient_some (suc d / g) g d e
  where
    quotient_some : (q g d : ℕ) → q * g ≡ suc d → 0 < q
    quotient_some zero g d e = absurd (omega arith)
    quotient_some (suc q) g d e = zero-lt-suc q

pub lowest_frac : (a : ℤ) (d : ℕ)
    → gcd (nat_abs (int_div a (pos (gcd (nat_abs a) (suc d))))) (suc (suc d / gcd (nat_abs a) (suc d) - 1)) ≡ 1
lowest_frac a d =
    let g = gcd (nat_abs a) (suc d) in
    let some = quotient_pos d g (gcd_is (nat_abs a) (suc d)).1 in
    let back : suc (suc d / g - 1) ≡ suc d / g = omega arith in
    rw (div-abs a g, back) (lowest_after (nat_abs a) (suc d) (zero-lt-suc d))
