-- The tally of two counts that stay at the largest u64.
use Rattle.std.specs.Prelude.{◌≡◌, ℕ, zero, suc, ◌+◌, ◌*◌, ◌-◌, ◌<◌, ◌≤◌, ◌^◌, min}
use Rattle.std.proofs.Common.{arith, sym, ap, ap₂, ◌∙◌, inl, inr}
use Rattle.std.proofs.lemmas.Bool.{cases_lt}
use native.Mathlib.Nat.{mul-le-mul_left}
use Rattle.rational.specs.Rational.{ℚ}
use Rattle.upp_limits.specs.declared.op_kind.OpKind.{OpKind}
use Rattle.upp_limits.specs.declared.op_kind.Tallied.{Tallied}
use Rattle.upp_curve.specs.Curve.{SpecCurve}
use Rattle.upp_curve.specs.Unrolled.{count}
use Rattle.upp_limits.specs.Gauges.{tallied, tally_of, tally_over}

pub top : ℕ
top = 2 ^ 64 - 1

-- past the largest, times at least 1
large_left : (m n : ℕ) → top < m → min (top * min n top) top ≡ min (m * n) top
unfolding top
large_left m zero h = omega arith
large_left m (suc n) h =
    let a : 1 ≤ min (suc n) top = omega arith in
    let l : top * 1 ≤ top * min (suc n) top = mul-le-mul_left top a in
    let b : 1 ≤ suc n = omega arith in
    let r : m * 1 ≤ m * suc n = mul-le-mul_left m b in
    omega (arith, l, r, h)

pub product_stays : (m n : ℕ) → min (min m top * min n top) top ≡ min (m * n) top
unfolding top
product_stays m n = elim (cases_lt top m) [
  | inl h ↦ ap (λ x. min (x * min n top) top) (high m h) ∙ large_left m n h
  | inr h ↦ elim (cases_lt top n) [
    | inl k ↦ ap₂ (λ x y. min (x * y) top) (low m h) (high n k) ∙ ap (λ x. min x top) (swap m top) ∙ ap (λ x. min (top * x) top) (sym (low m h)) ∙ large_left n m k ∙ ap (λ x. min x top) (swap n m)
    | inr k ↦ ap₂ (λ x y. min (x * y) top) (low m h) (low n k)
  ]
]
  where
    high : (m : ℕ) → top < m → min m top ≡ top
    high m h = omega (arith, h)

    low : (m : ℕ) → m ≤ top → min m top ≡ m
    low m h = omega (arith, h)

    swap : (a b : ℕ) → a * b ≡ b * a
    swap a b = omega arith

pub tally_is : (op : OpKind) (f g : SpecCurve) (end : ℚ) (k : Tallied) (m : ℕ) → k ≡ tallied op
    → m ≡ min (tally_of k (count f end) (count g end)) (2 ^ 64 - 1) → m ≡ min (tally_over op f g end) (2 ^ 64 - 1)
unfolding tally_over
tally_is op f g end k m e h = h ∙ ap (λ t. min (tally_of t (count f end) (count g end)) (2 ^ 64 - 1)) e

pub one_more_stays : (m a r : ℕ) → a ≡ min m (2 ^ 64 - 1) → r ≡ min (a + 1) (2 ^ 64 - 1) → r ≡ min (m + 1) (2 ^ 64 - 1)
one_more_stays m a r h e = omega (arith, h, e)

pub sum_stays : (m n a b r : ℕ) → a ≡ min m (2 ^ 64 - 1) → b ≡ min n (2 ^ 64 - 1) → r ≡ min (a + b) (2 ^ 64 - 1) → r ≡ min (m + n) (2 ^ 64 - 1)
sum_stays m n a b r h k e = omega (arith, h, k, e)

pub times_stays : (m n a b r : ℕ) → a ≡ min m (2 ^ 64 - 1) → b ≡ min n (2 ^ 64 - 1) → r ≡ min (a * b) (2 ^ 64 - 1) → r ≡ min (m * n) (2 ^ 64 - 1)
unfolding top
times_stays m n a b r h k e = e ∙ ap₂ (λ x y. min (x * y) (2 ^ 64 - 1)) h k ∙ product_stays m n
