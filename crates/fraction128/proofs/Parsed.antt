-- Reading digits, and what a number text is read as.
use Rattle.std.specs.Prelude.{◌≡◌, ℕ, zero, suc, ◌+◌, ◌*◌, ◌-◌, ◌<◌, ◌≤◌, ◌^◌, min, Bool, true, false, cond, ◌&&◌, ◌||◌, nat_lt, ◌==◌, List, length, take, pos, Ok, Err, ◌⊎◌}
use Rattle.std.proofs.Common.{arith, sym, ap, ◌∙◌, refl, inl, inr, get_or}
use Rattle.std.proofs.lemmas.Bool.Decides.{nat_tests}
use Rattle.std.proofs.lemmas.List.Folds.{list_all_more}
use Rattle.std.proofs.lemmas.Int.Digits.{digits_value_more}
use Rattle.std.proofs.lemmas.Str.{digit_value_digit}
use Rattle.std.specs.List.{list_all}
use Rattle.std.specs.Int.{IsInRange}
use Rattle.std.specs.Char.{is_ascii_digit, digit_value}
use Rattle.std.specs.Str.Parse.{digits_value, starts_with_minus}
use Rattle.rational.specs.Gauge.{cap}
use Rattle.rational.specs.Rational.{over}
use Rattle.rational.specs.Ratio.{ratio}
use Rattle.fraction128.specs.Text.{is_numeral, largest, number_from, parse_of, top_text, bottom_text, signed_value}
use Rattle.fraction128.specs.declared.fault.FracText.TheVariants.{Past, ZeroDen}

-- ---- digits
pub cap_zero : 0 ≡ cap 0
unfolding cap
cap_zero = omega arith

-- one more digit, where numbers stay at 2 ^ 128 - 1 once they are there
pub cap_digit : (v d n m r : ℕ) → n ≡ cap v → m ≡ min (n * 10) (2 ^ 128 - 1) → r ≡ min (m + d) (2 ^ 128 - 1) → r ≡ cap (v * 10 + d)
unfolding cap
cap_digit v d n m r p q s = omega (arith, p, q, s)

in_range : (c : ℕ) → is_ascii_digit c ≡ true → IsInRange 48 57 c
in_range c h = grind (arith, nat_tests)

pub digit_is : (c : ℕ) → is_ascii_digit c ≡ true → digit_value c ≡ c - 48
digit_is c h = let e = digit_value_digit c (in_range c h) in omega (arith, e)

pub digits_more : (ds : List ℕ) (i : ℕ) → i < length ds → list_all is_ascii_digit (take i ds) ≡ true → is_ascii_digit (get_or ds i 0) ≡ true
    → list_all is_ascii_digit (take (i + 1) ds) ≡ true
digits_more ds i l h d = list_all_more is_ascii_digit ds i 0 l ∙ both _ _ h d
  where
    both : (a b : Bool) → a ≡ true → b ≡ true → a && b ≡ true
    both a b p q = rw (p, q) refl

pub value_more : (ds : List ℕ) (i n m r : ℕ) → i < length ds → is_ascii_digit (get_or ds i 0) ≡ true → n ≡ cap (digits_value 10 (take i ds)) → m ≡ min (n * 10) (2 ^ 128 - 1)
    → r ≡ min (m + (get_or ds i 0 - 48)) (2 ^ 128 - 1) → r ≡ cap (digits_value 10 (take (i + 1) ds))
value_more ds i n m r l d p q s =
    cap_digit (digits_value 10 (take i ds)) (get_or ds i 0 - 48) n m r p q s
    ∙ ap cap (sym (digits_value_more 10 ds i l ∙ ap (λ k. digits_value 10 (take i ds) * 10 + k) (digit_is (get_or ds i 0) d)))

-- ---- the answer
pub parse_is : (text : List ℕ) (minus : Bool) (top bottom : List ℕ) → minus ≡ starts_with_minus text → top ≡ top_text text → bottom ≡ bottom_text text
    → number_from minus top bottom ≡ parse_of text
parse_is text minus top bottom p q r = rw (p, q, r) refl

cap_past : (n v : ℕ) → n ≡ cap v → largest < n → largest < v
unfolding cap
cap_past n v e h = omega (arith, e)

cap_within : (n v : ℕ) → n ≡ cap v → n ≤ largest → v ≡ n
unfolding cap
cap_within n v e h = omega (arith, e)

pub number_past : (minus : Bool) (top bottom : List ℕ) (n d : ℕ) → is_numeral top ≡ true → is_numeral bottom ≡ true → n ≡ cap (digits_value 10 top) → d ≡ cap (digits_value 10 bottom)
    → (largest < n) ⊎ (largest < d) → number_from minus top bottom ≡ Err Past
number_past minus top bottom n d p q e f h =
    let past : nat_lt largest (digits_value 10 top) || nat_lt largest (digits_value 10 bottom) ≡ true = either h in
    rw (p, q) (rw past refl)
  where
    either : (largest < n) ⊎ (largest < d) → nat_lt largest (digits_value 10 top) || nat_lt largest (digits_value 10 bottom) ≡ true
    either (inl l) = let k = cap_past n _ e l in grind (arith, nat_tests)
    either (inr l) = let k = cap_past d _ f l in grind (arith, nat_tests)

within : (minus : Bool) (top bottom : List ℕ) (n d : ℕ) → is_numeral top ≡ true → is_numeral bottom ≡ true → n ≡ cap (digits_value 10 top) → d ≡ cap (digits_value 10 bottom)
    → n ≤ largest → d ≤ largest → number_from minus top bottom ≡ cond (d == 0) (Err ZeroDen) (Ok (over (signed_value minus n) d))
within minus top bottom n d p q e f h k =
    let u = cap_within n _ e h in
    let v = cap_within d _ f k in
    let small : nat_lt largest (digits_value 10 top) || nat_lt largest (digits_value 10 bottom) ≡ false = rw (u, v) (neither n d h k) in
    rw (p, q) (rw small (rw (u, v) refl))
  where
    neither : (n d : ℕ) → n ≤ largest → d ≤ largest → nat_lt largest n || nat_lt largest d ≡ false
    neither n d h k = grind (arith, nat_tests)

pub number_zero : (minus : Bool) (top bottom : List ℕ) (n d : ℕ) → is_numeral top ≡ true → is_numeral bottom ≡ true → n ≡ cap (digits_value 10 top) → d ≡ cap (digits_value 10 bottom)
    → n ≤ largest → d ≤ largest → d ≡ 0 → number_from minus top bottom ≡ Err ZeroDen
number_zero minus top bottom n d p q e f h k z = within minus top bottom n d p q e f h k ∙ ap (λ m. cond (m == 0) (Err ZeroDen) (Ok (over (signed_value minus n) m))) z

pub number_ok : (minus : Bool) (top bottom : List ℕ) (n d : ℕ) → is_numeral top ≡ true → is_numeral bottom ≡ true → n ≡ cap (digits_value 10 top) → d ≡ cap (digits_value 10 bottom)
    → n ≤ largest → d ≤ largest → (d ≡ 0 → ⊥) → number_from minus top bottom ≡ Ok (ratio (signed_value minus n) (pos d))
number_ok minus top bottom n d p q e f h k z = within minus top bottom n d p q e f h k ∙ cases d z
  where
    cases : (d : ℕ) → (d ≡ 0 → ⊥) → cond (d == 0) (Err ZeroDen) (Ok (over (signed_value minus n) d)) ≡ Ok (ratio (signed_value minus n) (pos d))
    cases zero z = absurd (z refl)
    cases (suc d) z = let no : (suc d == 0) ≡ false = grind (arith, nat_tests) in ap (λ b. cond b (Err ZeroDen) (Ok (over (signed_value minus n) (suc d)))) no
