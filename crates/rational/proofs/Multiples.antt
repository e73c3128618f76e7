-- The least common multiple of two numbers.
use Rattle.std.specs.Prelude.{◌≡◌, ℕ, zero, suc, ◌*◌, ◌/◌, ◌<◌}
use Rattle.std.proofs.Common.{arith, ◌∙◌, subst}
use Prim.Native.Nat.{◌∣◌}
use native.Mathlib.Nat.{dvd-zero, dvd-mul_left, mul-dvd-mul_left, dvd_of_mul-dvd-mul_left, mul_comm, mul_assoc}
use native.Mathlib.Nat.{mul-pos, zero-lt-suc, mul-div_cancel', div-mul_cancel}
use Rattle.std.specs.Int.{IsGcd}
use Rattle.rational.specs.Gcd.{gcd}
use Rattle.rational.specs.Euclid.{gcd_is, gcd_pos, divides_other, lowest_after, gcd_unique}
use Rattle.rational.specs.Lowest.{quotient_pos}
use Rattle.rational.specs.Gauge.{lcm}

-- how often the greatest common divisor goes into a number
pub share_pos : (a b : ℕ) → 0 < a → 0 < a / gcd a b
share_pos (suc a) b h = quotient_pos a (gcd (suc a) b) (gcd_is (suc a) b).0
share_pos zero b h = absurd (omega arith)

pub lcm_pos : (a b : ℕ) → 0 < a → 0 < b → 0 < lcm a b
lcm_pos a b h k = mul-pos (share_pos a b h) k

-- b / gcd times a is the same number
pub lcm_swap : (a b : ℕ) → b / gcd a b * a ≡ lcm a b
lcm_swap a b =
    let g = gcd a b in
    let p : a / g * g ≡ a = div-mul_cancel g (gcd_is a b).0 in
    let q : b / g * g ≡ b = div-mul_cancel g (gcd_is a b).1 in
    swapped (a / g) (b / g) g a b p q
  where
    swapped : (x y g a b : ℕ) → x * g ≡ a → y * g ≡ b → y * a ≡ x * b
    swapped x y g a b p q = rw (← p, ← q) (omega arith)

pub lcm_left : (a b : ℕ) → a ∣ lcm a b
lcm_left a b = subst (λ n. a ∣ n) (lcm_swap a b) (dvd-mul_left a (b / gcd a b))

pub lcm_right : (a b : ℕ) → b ∣ lcm a b
lcm_right a b = dvd-mul_left b (a / gcd a b)

-- it divides each common multiple
pub lcm_least : (a b m : ℕ) → 0 < a → 0 < b → a ∣ m → b ∣ m → lcm a b ∣ m
lcm_least a b m some_a some_b h k =
    let g = gcd a b in
    let is = gcd_is a b in
    let some_g : 0 < g = gcd_pos a b some_b in
    let x = a / g in
    let y = b / g in
    let p : g * x ≡ a = mul-div_cancel' g is.0 in
    let q : g * y ≡ b = mul-div_cancel' g is.1 in
    let n = m / b in
    let e : b * n ≡ m = mul-div_cancel' b k in
    let down : g * x ∣ g * (y * n) = rw (p, ← mul_assoc g y n, q, e) h in
    let low : x ∣ y * n = dvd_of_mul-dvd-mul_left x some_g down in
    let one : gcd y x ≡ 1 = turned_gcd x y (lowest_after a b some_b) in
    let last : x ∣ n = divides y x n one low in
    subst (λ w. x * b ∣ w) (mul_comm n b ∙ e) (scale x n b last)
  where
    turned_gcd : (x y : ℕ) → gcd x y ≡ 1 → gcd y x ≡ 1
    turned_gcd x y e =
        let is : IsGcd x y 1 = subst (λ g. IsGcd x y g) e (gcd_is x y) in
        gcd_unique y x 1 (is.1, is.0, λ d l r. is.2 d r l)

    divides : (y x n : ℕ) → gcd y x ≡ 1 → x ∣ y * n → x ∣ n
    divides y x zero e h = dvd-zero x
    divides y x (suc n) e h = divides_other y x (suc n) (zero-lt-suc n) e h

    scale : (x n b : ℕ) → x ∣ n → x * b ∣ n * b
    scale x n b h = rw (mul_comm x b, mul_comm n b) (mul-dvd-mul_left x b h)
