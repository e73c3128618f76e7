-- Exact numbers from 0 on, as the cells of a table write them. Own choice.
use Rattle.std.specs.Prelude.{ℕ, ◌<◌, ◌≤◌, ◌+◌, ◌-◌, ◌*◌, ◌/◌, ◌%◌, ◌^◌, Bool, ◌==◌, ◌&&◌, nat_le, if◌then◌else◌, List, [], ◌∷◌, length, take, drop, Option, Some, None, option_map, option_and_then}
use Rattle.std.specs.List.{position}
use Rattle.std.specs.Str.Parse.{digits_value}
use Rattle.fraction128.specs.Text.{is_numeral, is_slash}
use Rattle.table_cells.specs.declared.amount.Amount.{Amount}

-- how many digits a number has at most
abbrev pub most_digits : ℕ
most_digits = 18

-- an amount that is written so: the number above 0 below, both of at most 18 digits
pub record IsAmount (a : Amount) : Type 0 where
  pub top : a.top < 10 ^ most_digits
  pub some : 0 < a.bottom
  pub bottom : a.bottom ≤ 10 ^ most_digits

-- the number that 1 to 18 digits write, where nothing else is there
abbrev pub few_digits : List ℕ → Option ℕ
few_digits digits =
    if nat_le (length digits) most_digits && is_numeral digits then Some (digits_value 10 digits) else None

-- the byte `.`
abbrev pub is_point : ℕ → Bool
is_point b = b == 46

-- a number over another that is not 0
abbrev pub over_some : ℕ → ℕ → Option Amount
over_some top bottom = if bottom == 0 then None else Some (record { top = top; bottom = bottom })

abbrev pub fraction : List ℕ → List ℕ → Option Amount
fraction top bottom =
    option_and_then (λ p. option_and_then (λ q. over_some p q) (few_digits bottom)) (few_digits top)

-- digits behind a point: that many tenths, hundredths ..
abbrev pub with_decimals : ℕ → List ℕ → Option Amount
with_decimals whole [] = Some (record { top = whole; bottom = 1 })
with_decimals whole (d ∷ ds) =
    option_map
    (λ part. let tens = 10 ^ length (d ∷ ds) in record { top = whole * tens + part; bottom = tens })
    (few_digits (d ∷ ds))

-- at most 18 digits in all
abbrev pub decimal : List ℕ → List ℕ → Option Amount
decimal whole after =
    if nat_le (length whole + length after) most_digits
    then option_and_then (λ n. with_decimals n after) (few_digits whole)
    else None

-- without a slash: the digits before the first point, and those behind it
abbrev pub decimal_at : Option ℕ → List ℕ → Option Amount
decimal_at None text = decimal text []
decimal_at (Some at) text = decimal (take at text) (drop (at + 1) text)

-- the digits before the first slash, and those behind it
abbrev pub amount_at : Option ℕ → List ℕ → Option Amount
amount_at None text = decimal_at (position is_point text) text
amount_at (Some at) text = fraction (take at text) (drop (at + 1) text)

-- the number that a text writes, where it writes one
abbrev pub amount_in : List ℕ → Option Amount
amount_in text = amount_at (position is_slash text) text

-- ---- compared and rounded
abbrev pub whole : ℕ → Amount
whole n = record { top = n; bottom = 1 }

-- it is no more than so many
abbrev pub is_at_most : Amount → ℕ → Bool
is_at_most a most = nat_le a.top (most * a.bottom)

-- so many times it is 1 or more
abbrev pub reaches_one : Amount → ℕ → Bool
reaches_one a times = nat_le a.bottom (a.top * times)

abbrev pub is_within : Amount → Amount → Bool
is_within a b = nat_le (a.top * b.bottom) (b.top * a.bottom)

-- they are one number, however written
abbrev pub equals : Amount → Amount → Bool
equals a b = a.top * b.bottom == b.top * a.bottom

-- so many times it are a whole number
abbrev pub is_whole : (times : ℕ) → Amount → Bool
is_whole times a = a.top * times % a.bottom == 0

-- so many times it, rounded down and up to a whole number
abbrev pub rounded_down : ℕ → Amount → ℕ
rounded_down times a = a.top * times / a.bottom

abbrev pub rounded_up : ℕ → Amount → ℕ
rounded_up times a = (a.top * times + (a.bottom - 1)) / a.bottom
