-- The texts of numbers, read again.
use Rattle.std.proofs.Common.{◌≡◌, ℕ, ◌+◌, ◌/◌, ◌%◌, ◌^◌, ◌<◌, ◌≤◌, ◌==◌, ◌&&◌, nat_le, nat_lt, Bool, true, false, List, [], ◌∷◌, ◌++◌, length, take, drop, position, Option, Some, None, refl, ap, ap₂, ◌∙◌, arith}
use Rattle.std.proofs.lemmas.Bool.{le-leb, lt-ltb}
use Rattle.std.specs.Char.{is_ascii_digit, digit_value}
use Rattle.std.specs.Fmt.{decimal}
use Rattle.std.specs.List.{list_all, position_from}
use Rattle.std.specs.Str.Parse.{digits_value}
use Rattle.std.proofs.lemmas.Bool.Decides.{nat_tests}
use Rattle.std.proofs.lemmas.Fmt.{decimal_is_IsNumeral, decimal_digit, decimal_by_steps, length-decimal-le, decimal_nonempty}
use Rattle.std.proofs.lemmas.Iterator.Adapters.{position_from-zero}
use Rattle.std.proofs.lemmas.List.Folds.{list_all-append}
use Rattle.std.proofs.Math.Seq.{take-append_seam, drop-append-add}
use Rattle.fraction128.specs.Text.{is_slash}
use Rattle.table_cells.specs.Amounts.{amount_in, amount_at, decimal_at, few_digits, is_point}
use Rattle.table_cells.specs.Amounts as amounts
use Rattle.bounds_report.specs.Laws.{TextsAreNumbers, over_thousand}
use Rattle.bounds_report.specs.Numbers.{thousandths}

-- ---- digits
abbrev AreDigits : List ℕ → Type 0
AreDigits ds = list_all is_ascii_digit ds ≡ true

digit_is : (d : ℕ) → d < 10 → is_ascii_digit (48 + d) ≡ true
digit_is d h = grind (arith, nat_tests)

value_is : (d : ℕ) → d < 10 → digit_value (48 + d) ≡ d
value_is d h = grind (arith, nat_tests)

pub are_digits : (n : ℕ) → n < 2 ^ 64 → AreDigits (decimal n)
are_digits n h = decimal_by_steps (λ n ds. AreDigits ds) (λ n less. let e = digit_is n less in rw e refl) (λ n ds more old. joined ds (n % 10) old (omega arith)) n h
  where
    joined : (ds : List ℕ) (d : ℕ) → AreDigits ds → d < 10 → AreDigits (ds ++ (48 + d) ∷ [])
    joined ds d old less = let e = digit_is d less in list_all-append is_ascii_digit ds ((48 + d) ∷ []) ∙ rw (old, e) refl

-- ---- places
-- a byte that no digit is
no_digit : (mark : ℕ) → mark < 48 → (c : ℕ) → is_ascii_digit c ≡ true → (c == mark) ≡ false
no_digit mark less c h = grind (arith, nat_tests)

first_digit : (c : ℕ) (ds : List ℕ) → AreDigits (c ∷ ds) → (is_ascii_digit c ≡ true) × AreDigits ds
first_digit c ds h = split (is_ascii_digit c) (list_all is_ascii_digit ds) h
  where
    split : (a b : Bool) → a && b ≡ true → (a ≡ true) × (b ≡ true)
    split true b h = (refl, h)
    split false b h = cc

-- behind digits a byte stands where it stands in what is left
past_digits : (mark : ℕ) → mark < 48 → (ds rest : List ℕ) (n : ℕ) → AreDigits ds → position_from (λ b. b == mark) n (ds ++ rest) ≡ position_from (λ b. b == mark) (n + length ds) rest
past_digits mark less [] rest n h = ap (λ (k : ℕ). position_from (λ b. b == mark) k rest) (omega arith)
past_digits mark less (c ∷ ds) rest n h =
    let f = first_digit c ds h in
    let e = no_digit mark less c f.0 in
    rw e (past_digits mark less ds rest (n + 1) f.1 ∙ ap (λ (k : ℕ). position_from (λ b. b == mark) k rest) (omega arith))

-- ---- thousandths
module _ (n : ℕ) (short : n < 10 ^ 18) where
  whole : List ℕ
  whole = decimal (n / 1000)

  abbrev a : ℕ
  a = n / 100 % 10

  abbrev b : ℕ
  b = n / 10 % 10

  abbrev c : ℕ
  c = n % 10

  abbrev behind : List ℕ
  behind = (48 + a) ∷ (48 + b) ∷ (48 + c) ∷ []

  behind_digits : AreDigits behind
  behind_digits =
      let x = digit_is a (omega arith) in
      let y = digit_is b (omega arith) in
      let z = digit_is c (omega arith) in
      rw (x, y, z) refl

  behind_value : digits_value 10 behind ≡ n % 1000
  behind_value =
      let x = value_is a (omega arith) in
      let y = value_is b (omega arith) in
      let z = value_is c (omega arith) in
      rw (x, y, z) (omega arith)

  text_is : thousandths n ≡ whole ++ 46 ∷ behind
  unfolding thousandths whole
  text_is =
      let x = decimal_digit a (omega arith) in
      let y = decimal_digit b (omega arith) in
      let z = decimal_digit c (omega arith) in
      rw (x, y, z) refl

  whole_digits : AreDigits whole
  unfolding whole
  whole_digits = are_digits (n / 1000) (omega arith)

  whole_short : length whole ≤ 15
  unfolding whole
  whole_short = length-decimal-le 15 (n / 1000) (omega arith) (omega arith) (omega arith)

  whole_some : 0 < length whole
  unfolding whole
  whole_some = decimal_nonempty (n / 1000) (omega arith)

  whole_value : digits_value 10 whole ≡ n / 1000
  unfolding whole
  whole_value = (decimal_is_IsNumeral (n / 1000) (omega arith)).1

  abbrev text : List ℕ
  text = whole ++ 46 ∷ behind

  no_slash : position is_slash text ≡ None
  no_slash =
      let x = no_digit 47 (omega arith) (48 + a) (digit_is a (omega arith)) in
      let y = no_digit 47 (omega arith) (48 + b) (digit_is b (omega arith)) in
      let z = no_digit 47 (omega arith) (48 + c) (digit_is c (omega arith)) in
      position_from-zero is_slash text ∙ (past_digits 47 (omega arith) whole (46 ∷ behind) 0 whole_digits ∙ rw (x, y, z) refl)

  point_at : position is_point text ≡ Some (length whole)
  point_at = position_from-zero is_point text ∙ (past_digits 46 (omega arith) whole (46 ∷ behind) 0 whole_digits ∙ ap Some (omega arith))

  front : take (length whole) text ≡ whole
  front = take-append_seam whole (46 ∷ behind)

  back : drop (length whole + 1) text ≡ behind
  back = drop-append-add whole (46 ∷ behind) 1

  few : (ds : List ℕ) (value : ℕ) → length ds ≤ 18 → 0 < length ds → AreDigits ds → digits_value 10 ds ≡ value → few_digits ds ≡ Some value
  few ds value l some digits e =
      let t : nat_le (length ds) 18 ≡ true = le-leb (length ds) 18 l in
      let u : nat_lt 0 (length ds) ≡ true = lt-ltb 0 (length ds) some in
      rw (t, u, digits) (ap Some e)

  decimal_is : amounts.decimal whole behind ≡ Some (over_thousand n)
  decimal_is =
      let l = whole_short in
      let t : nat_le (length whole + 3) 18 ≡ true = le-leb (length whole + 3) 18 (omega (arith, l)) in
      let w = few whole (n / 1000) (omega (arith, l)) whole_some whole_digits whole_value in
      let v = few behind (n % 1000) (omega arith) (omega arith) behind_digits behind_value in
      rw (t, w, v) (ap (λ (top : ℕ). Some (over_thousand top)) (omega arith))

  pub read_back : amount_in (thousandths n) ≡ Some (over_thousand n)
  read_back =
      ap amount_in text_is
      ∙ (ap (λ (at : Option ℕ). amount_at at text) no_slash
      ∙ (ap (λ (at : Option ℕ). decimal_at at text) point_at
      ∙ (ap₂ amounts.decimal front back ∙ decimal_is)))

pub texts_are_numbers : TextsAreNumbers
texts_are_numbers = record {
  loads = λ n short. read_back n short;
  times = λ n short. read_back ((n + 999) / 1000) (omega (arith, short));
  backlogs = λ n short. decimal_is_IsNumeral n short;
}
