-- Amounts that are one number, however written, are rounded to one.
use Rattle.std.proofs.Common.{◌≡◌, ℕ, ◌+◌, ◌-◌, ◌*◌, ◌/◌, ◌<◌, ◌≤◌, true, arith}
use Rattle.std.proofs.lemmas.Bool.{eqb-true}
use Rattle.std.proofs.Math.Nat.{le-div_iff_mul-le, div-lt_iff_lt-mul, div-mul-le_self, mul-le-mul_right, le_of_mul-le-mul_right}
use Rattle.table_cells.specs.declared.amount.Amount.{Amount}
use Rattle.table_cells.specs.Amounts.{IsAmount, equals, rounded_down, rounded_up}

-- ---- a fraction p / q that is no more than r / s
pub down_within : (p q r s times : ℕ) → 0 < q → 0 < s → p * s ≤ r * q → p * times / q ≤ r * times / s
down_within p q r s times some other h =
    let d = p * times / q in
    let low : d * q ≤ p * times = div-mul-le_self (p * times) q in
    let more : d * q * s ≤ p * times * s = mul-le-mul_right s low in
    let less : p * s * times ≤ r * q * times = mul-le-mul_right times h in
    let all : d * s * q ≤ r * times * q = regroup d q s p r times more less in
    (le-div_iff_mul-le other).1 (le_of_mul-le-mul_right all some)
  where
    regroup : (d q s p r t : ℕ) → d * q * s ≤ p * t * s → p * s * t ≤ r * q * t → d * s * q ≤ r * t * q
    regroup d q s p r t a b = grind arith

up_within : (p q r s times : ℕ) → 0 < q → 0 < s → p * s ≤ r * q → (p * times + (q - 1)) / q ≤ (r * times + (s - 1)) / s
up_within p q r s times some other h =
    let e = (r * times + (s - 1)) / s in
    let next : e < e + 1 = omega arith in
    let top : r * times + (s - 1) < (e + 1) * s = (div-lt_iff_lt-mul other).0 next in
    let high : r * times ≤ e * s = no_more (r * times) e s top in
    let more : r * times * q ≤ e * s * q = mul-le-mul_right q high in
    let less : p * s * times ≤ r * q * times = mul-le-mul_right times h in
    let all : p * times * s ≤ e * q * s = regroup e q s p r times more less in
    let one : p * times ≤ e * q = le_of_mul-le-mul_right all other in
    let below : (p * times + (q - 1)) / q < e + 1 = (div-lt_iff_lt-mul some).1 (one_more (p * times) e q some one) in
    omega (arith, below)
  where
    no_more : (n e s : ℕ) → n + (s - 1) < (e + 1) * s → n ≤ e * s
    no_more n e s h = omega arith

    one_more : (n e q : ℕ) → 0 < q → n ≤ e * q → n + (q - 1) < (e + 1) * q
    one_more n e q some h = omega arith

    regroup : (e q s p r t : ℕ) → r * t * q ≤ e * s * q → p * s * t ≤ r * q * t → p * t * s ≤ e * q * s
    regroup e q s p r t a b = grind arith

-- ---- amounts
crossed : (a b : Amount) → equals a b ≡ true → a.top * b.bottom ≡ b.top * a.bottom
crossed a b h = eqb-true (a.top * b.bottom) (b.top * a.bottom) h

both_ways : (a b : ℕ) → a ≤ b → b ≤ a → a ≡ b
both_ways a b h k = omega arith

pub same_down : (times : ℕ) (a b : Amount) → IsAmount a → IsAmount b → equals a b ≡ true → rounded_down times a ≡ rounded_down times b
same_down times a b x y h =
    let e = crossed a b h in
    both_ways (rounded_down times a) (rounded_down times b)
    (down_within a.top a.bottom b.top b.bottom times x.some y.some (omega (arith, e)))
    (down_within b.top b.bottom a.top a.bottom times y.some x.some (omega (arith, e)))

pub same_up : (times : ℕ) (a b : Amount) → IsAmount a → IsAmount b → equals a b ≡ true → rounded_up times a ≡ rounded_up times b
same_up times a b x y h =
    let e = crossed a b h in
    both_ways (rounded_up times a) (rounded_up times b)
    (up_within a.top a.bottom b.top b.bottom times x.some y.some (omega (arith, e)))
    (up_within b.top b.bottom a.top a.bottom times y.some x.some (omega (arith, e)))
