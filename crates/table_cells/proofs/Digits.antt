-- How large the numbers of few digits are.
use Rattle.std.proofs.Common.{◌≡◌, ℕ, ◌+◌, ◌*◌, ◌<◌, ◌≤◌, ◌^◌, ◌&&◌, nat_le, nat_lt, Bool, true, List, [], ◌∷◌, Some, length, ap, arith}
use Rattle.std.proofs.lemmas.Bool.{and_parts, le-leb}
use Rattle.std.proofs.lemmas.Bool.Decides.{nat_tests}
use Rattle.std.proofs.lemmas.Int.Digits.{digits_value-lt}
use Rattle.std.proofs.lemmas.Nat.{pow-add}
use Rattle.std.proofs.Math.Nat.{one-le-pow, pow-le-pow_right, mul-le-mul_right}
use Rattle.std.specs.Char.{is_ascii_digit, digit_value}
use Rattle.std.specs.List.{list_all}
use Rattle.std.specs.Str.Parse.{digits_value, AllDigits}
use Rattle.rational.specs.Gauge.{cap}
use Rattle.fraction128.specs.Text.{is_numeral}
use Rattle.table_cells.specs.Amounts.{IsAmount, few_digits}
use Rattle.fraction128.proofs.Parsed.{digit_is}

pub both : (a b : Bool) → a && b ≡ true → (a ≡ true) × (b ≡ true)
both a b h = and_parts a b h

digit : (c : ℕ) → is_ascii_digit c ≡ true → digit_value c < 10
digit c h = let e = digit_is c h in let r : c ≤ 57 = grind (arith, nat_tests) in omega (arith, e, r)

all_digits : (ds : List ℕ) → list_all is_ascii_digit ds ≡ true → AllDigits 10 ds
all_digits [] h = tt
all_digits (c ∷ cs) h = let b = both (is_ascii_digit c) (list_all is_ascii_digit cs) h in (digit c b.0, all_digits cs b.1)

pub short : (ds : List ℕ) → is_numeral ds ≡ true → digits_value 10 ds < 10 ^ length ds
short ds h = digits_value-lt 10 ds (all_digits ds (both (nat_lt 0 (length ds)) (list_all is_ascii_digit ds) h).1)

pub power : (k : ℕ) → k ≤ 18 → 10 ^ k ≤ 10 ^ 18
power k h = pow-le-pow_right (omega arith) h

pub few : (ds : List ℕ) → length ds ≤ 18 → is_numeral ds ≡ true → digits_value 10 ds < 10 ^ 18
few ds l h = let s = short ds h in let p = power (length ds) l in omega (arith, s, p)

pub capped : (ds : List ℕ) (n : ℕ) → length ds ≤ 18 → is_numeral ds ≡ true → n ≡ cap (digits_value 10 ds) → n ≡ digits_value 10 ds
unfolding cap
capped ds n l h e = let f = few ds l h in omega (arith, e, f)

-- digits before others
pub joined : (front back w a : ℕ) → front < 10 ^ w → back < 10 ^ a → w + a ≤ 18 → front * 10 ^ a + back < 10 ^ 18
joined front back w a f b l =
    let less : (front + 1) * 10 ^ a ≤ 10 ^ w * 10 ^ a = mul-le-mul_right (10 ^ a) (omega arith) in
    let sum : 10 ^ (w + a) ≡ 10 ^ w * 10 ^ a = pow-add 10 w a in
    let p = power (w + a) l in
    omega (arith, less, sum, p, b)

pub few_is : (ds : List ℕ) (n : ℕ) → length ds ≤ 18 → is_numeral ds ≡ true → n ≡ cap (digits_value 10 ds) → Some n ≡ few_digits ds
few_is ds n l h e =
    let t : nat_le (length ds) 18 ≡ true = le-leb (length ds) 18 l in
    rw (t, h) (ap Some (capped ds n l h e))

pub amount_joined : (front back w a bottom : ℕ) → bottom ≡ 10 ^ a → front < 10 ^ w → back < 10 ^ a → w + a ≤ 18
    → IsAmount (record { top = front * bottom + back; bottom = bottom })
amount_joined front back w a bottom e f b l =
    let j = joined front back w a f b l in
    let some = one-le-pow a 10 (omega arith) in
    let p = power a (omega arith) in
    record { top = rw e j; some = rw e some; bottom = rw e p }
