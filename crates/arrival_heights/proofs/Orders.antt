-- The order of times that are fractions.
use Rattle.std.specs.Prelude.{◌≡◌, ℕ, ◌*◌, ◌<◌, ◌≤◌, max, Bool, false, nat_lt}
use Rattle.std.proofs.Common.{arith, subst, inl, inr}
use Rattle.std.proofs.lemmas.Bool.{cases_lt}
use Rattle.std.specs.Cmp.{IsStrictWeakOrder}
use Rattle.std.proofs.Math.Nat.{le_of_mul-le-mul_right, mul-le-mul_right}
use Rattle.arrival_lines.proofs.InOrder.{is_less, is_not_less, not_less}
use Rattle.arrival_heights.specs.Heights.{IsMoment}
use Rattle.arrival_heights.specs.declared.heights.Moment.{Moment}

-- ---- x over p, y over q and z over r
pub chain : (x p y q z r : ℕ) → 0 < q → x * q ≤ y * p → y * r ≤ z * q → x * r ≤ z * p
chain x p y q z r some h l =
    let m : (x * q) * r ≤ (y * p) * r = mul-le-mul_right r h in
    let n : (y * r) * p ≤ (z * q) * p = mul-le-mul_right p l in
    let k : (x * r) * q ≤ (z * p) * q = omega (arith, m, n) in
    le_of_mul-le-mul_right k some

-- where the first is less than the second
pub chain_before : (x p y q z r : ℕ) → 0 < r → x * q < y * p → y * r ≤ z * q → x * r < z * p
chain_before x p y q z r some h l = elim (cases_lt (x * r) (z * p)) [
  | inl less ↦ less
  | inr more ↦ let k : y * p ≤ x * q = chain y q z r x p some l more in absurd (omega (arith, h, k))
]

-- where the second is less than the third
pub chain_behind : (x p y q z r : ℕ) → 0 < p → x * q ≤ y * p → y * r < z * q → x * r < z * p
chain_behind x p y q z r some h l = elim (cases_lt (x * r) (z * p)) [
  | inl less ↦ less
  | inr more ↦ let k : z * q ≤ y * r = chain z r x p y q some more h in absurd (omega (arith, l, k))
]

-- ---- the order of the sort
abbrev pub apart : Moment → ℕ
apart at = max at.under 1

abbrev pub sooner : Moment → Moment → Bool
sooner x y = nat_lt (x.over * apart y) (y.over * apart x)

pub sooner_order : IsStrictWeakOrder sooner
sooner_order = record {
  one_way = λ x y h. let l = is_less (x.over * apart y) (y.over * apart x) h in is_not_less (y.over * apart x) (x.over * apart y) (omega (arith, l));
  chain = λ x y z h l. is_not_less (x.over * apart z) (z.over * apart x)
      (chain z.over (apart z) y.over (apart y) x.over (apart x) (omega arith) (not_less (y.over * apart z) (z.over * apart y) l) (not_less (x.over * apart y) (y.over * apart x) h));
}

pub in_time : (x y : Moment) → IsMoment x → IsMoment y → sooner y x ≡ false → x.over * y.under ≤ y.over * x.under
in_time x y one other h =
    let k = not_less (y.over * apart x) (x.over * apart y) h in
    let some = one.some in
    let above = other.some in
    let e : apart x ≡ x.under = omega (arith, some) in
    let f : apart y ≡ y.under = omega (arith, above) in
    subst (λ (n : ℕ). x.over * y.under ≤ y.over * n) e (subst (λ (n : ℕ). x.over * n ≤ y.over * apart x) f k)
