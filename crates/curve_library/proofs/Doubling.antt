-- Quotients of products by doubling.
use Rattle.std.specs.Prelude.{◌≡◌, ℕ, ◌+◌, ◌*◌, ◌/◌, ◌%◌, ◌<◌, ◌≤◌}
use Rattle.std.proofs.Common.{arith, sym, ap, ◌∙◌}
use native.Mathlib.Nat.{mul-le-mul_left, mul-le-mul_right}
use Rattle.std.proofs.Math.Nat.{div-add-mod, le-div_iff_mul-le}
use Rattle.upp_limits.proofs.OwnGauge.{large}

-- twice a quotient
twice_is : (k m by h r w s : ℕ) → h * by + r ≡ k * m → w * by + s ≡ 2 * h * by + 2 * r → w * by + s ≡ 2 * k * m
twice_is k m by h r w s e f = omega (arith, e, f)

-- and one more
more_is : (k m by w s v t : ℕ) → w * by + s ≡ 2 * k * m → v * by + t ≡ w * by + (s + m) → v * by + t ≡ (2 * k + 1) * m
more_is k m by w s v t e f = omega (arith, e, f)

halves : (n : ℕ) → n ≡ 2 * (n / 2) + n % 2
halves n = sym (div-add-mod n 2)

pub even_is : (n m by h r w s : ℕ) → n % 2 ≡ 0 → h * by + r ≡ n / 2 * m → w * by + s ≡ 2 * h * by + 2 * r → w * by + s ≡ n * m
even_is n m by h r w s even e f =
    let whole : 2 * (n / 2) ≡ n = let k = halves n in omega (arith, k, even) in
    twice_is (n / 2) m by h r w s e f ∙ ap (λ x. x * m) whole

pub odd_is : (n m by h r w s v t : ℕ) → (n % 2 ≡ 0 → ⊥) → h * by + r ≡ n / 2 * m → w * by + s ≡ 2 * h * by + 2 * r → v * by + t ≡ w * by + (s + m) → v * by + t ≡ n * m
odd_is n m by h r w s v t odd e f g =
    let whole : 2 * (n / 2) + 1 ≡ n = omega (arith, odd) in
    more_is (n / 2) m by w s v t (twice_is (n / 2) m by h r w s e f) g ∙ ap (λ x. x * m) whole

-- the quotient of n m by more than m is at most n
pub at_most : (n m by q r : ℕ) → m < by → q * by + r ≡ n * m → q ≤ n
at_most n m by q r h e = large n q (λ l.
    let a : (n + 1) * by ≤ q * by = mul-le-mul_right by (more l) in
    let b : n * m ≤ n * by = mul-le-mul_left n (less h) in
    omega (arith, a, b, e, h))
  where
    more : n < q → n + 1 ≤ q
    more l = omega (arith, l)

    less : m < by → m ≤ by
    less k = omega (arith, k)

-- ---- of any factor
joined : (n m by d e low rest : ℕ) → m ≡ d * by + e → low * by + rest ≡ n * e → (n * d + low) * by + rest ≡ n * m
joined n m by d e low rest f g =
    let h : (n * d + low) * by + rest ≡ n * (d * by + e) = omega (arith, g) in
    h ∙ ap (λ x. n * x) (sym f)

pub joined_is : (n m by low rest : ℕ) → low * by + rest ≡ n * (m % by) → (n * (m / by) + low) * by + rest ≡ n * m
joined_is n m by low rest g = joined n m by (m / by) (m % by) low rest (let k = div-add-mod m by in omega (arith, k)) g

pub far_quotient : (n m by low rest b : ℕ) → 0 < by → low * by + rest ≡ n * (m % by) → b ≤ n * (m / by) + low → b ≤ n * m / by
far_quotient n m by low rest b some g h =
    let e = joined_is n m by low rest g in
    let l : b * by ≤ (n * (m / by) + low) * by = mul-le-mul_right by h in
    (le-div_iff_mul-le some).1 (omega (arith, e, l))
