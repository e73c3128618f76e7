-- Amounts that cells write: the number above 0 below, both of at most 18 digits.
use Rattle.std.proofs.Common.{◌≡◌, ℕ, ◌+◌, ◌*◌, ◌<◌, ◌≤◌, ◌^◌, ◌==◌, nat_le, ◌&&◌, List, [], ◌∷◌, length, take, drop, Option, Some, None, refl, subst, arith}
use Rattle.std.proofs.lemmas.Bool.{leb-true, eqb-false}
use Rattle.std.specs.List.{position}
use Rattle.std.specs.Option.{option_and_then}
use Rattle.std.specs.Str.Parse.{digits_value}
use Rattle.std.proofs.Math.Nat.{one-le-pow}
use Rattle.fraction128.specs.Text.{is_numeral, is_slash}
use Rattle.table_cells.specs.declared.amount.Amount.{Amount}
use Rattle.table_cells.specs.Amounts.{IsAmount, few_digits, fraction, over_some, with_decimals, decimal, decimal_at, amount_at, amount_in, is_point, whole}
use Rattle.table_cells.proofs.Digits.{both, short, few, power, amount_joined}
use Rattle.document_tables.proofs.Reading.{both_some, one_some, some_if, some_unless, inner}

few_short : (ds : List ℕ) (n : ℕ) → few_digits ds ≡ Some n → (length ds ≤ 18) × (n < 10 ^ 18) × (n < 10 ^ length ds)
few_short ds n h =
    let i = some_if (nat_le (length ds) 18 && is_numeral ds) (Some (digits_value 10 ds)) n h in
    let b = both (nat_le (length ds) 18) (is_numeral ds) i.0 in
    let e : digits_value 10 ds ≡ n = cc (i.1) in
    let l : length ds ≤ 18 = leb-true (length ds) 18 b.0 in
    let f = few ds l b.1 in
    let s = short ds b.1 in
    (l, subst (λ m. m < 10 ^ 18) e f, subst (λ m. m < 10 ^ length ds) e s)

over : (p q : ℕ) (a : Amount) → p < 10 ^ 18 → q < 10 ^ 18 → over_some p q ≡ Some a → IsAmount a
over p q a hp hq h =
    let made : Amount = record { top = p; bottom = q } in
    let e = some_unless (q == 0) made a h in
    let other : q ≡ 0 → ⊥ = eqb-false q 0 e.0 in
    let some : 0 < q = omega (arith, other) in
    subst IsAmount e.1 (record { top = hp; some = some; bottom = omega (arith, hq) })

of_fraction : (top bottom : List ℕ) (a : Amount) → fraction top bottom ≡ Some a → IsAmount a
of_fraction top bottom a h =
    let p = both_some (λ (p : ℕ). option_and_then (λ q. over_some p q) (few_digits bottom)) (few_digits top) a h in
    let q = both_some (λ q. over_some p.0 q) (few_digits bottom) a p.2 in
    over p.0 q.0 a (few_short top p.0 p.1).1 (few_short bottom q.0 q.1).1 q.2

of_decimals : (n : ℕ) (front after : List ℕ) (a : Amount) → length front + length after ≤ 18 → few_digits front ≡ Some n → with_decimals n after ≡ Some a → IsAmount a
of_decimals n front [] a l f h =
    let made : Amount = record { top = n; bottom = 1 } in subst IsAmount (inner made a h) (record { top = (few_short front n f).1; some = omega arith; bottom = power 0 (omega arith) })
of_decimals n front (d ∷ ds) a l f h =
    let m = one_some (λ part. let tens = 10 ^ length (d ∷ ds) in record { top = n * tens + part; bottom = tens }) (few_digits (d ∷ ds)) a h in
    subst IsAmount m.2 (amount_joined n m.0 (length front) (length (d ∷ ds)) (10 ^ length (d ∷ ds)) refl (few_short front n f).2 (few_short (d ∷ ds) m.0 m.1).2 l)

of_decimal : (front after : List ℕ) (a : Amount) → decimal front after ≡ Some a → IsAmount a
of_decimal front after a h =
    let i = some_if (nat_le (length front + length after) 18) (option_and_then (λ n. with_decimals n after) (few_digits front)) a h in
    let n = both_some (λ n. with_decimals n after) (few_digits front) a i.1 in
    let l : length front + length after ≤ 18 = leb-true (length front + length after) 18 i.0 in
    of_decimals n.0 front after a l n.1 n.2

without_slash : (at : Option ℕ) (text : List ℕ) (a : Amount) → decimal_at at text ≡ Some a → IsAmount a
without_slash None text a h = of_decimal text [] a h
without_slash (Some at) text a h = of_decimal (take at text) (drop (at + 1) text) a h

with_slash : (at : Option ℕ) (text : List ℕ) (a : Amount) → amount_at at text ≡ Some a → IsAmount a
with_slash None text a h = without_slash (position is_point text) text a h
with_slash (Some at) text a h = of_fraction (take at text) (drop (at + 1) text) a h

pub amount_written : (text : List ℕ) (a : Amount) → amount_in text ≡ Some a → IsAmount a
amount_written text a h = with_slash (position is_slash text) text a h

pub zero_amount : IsAmount (whole 0)
zero_amount = record { top = one-le-pow 18 10 (omega arith); some = omega arith; bottom = power 0 (omega arith) }
