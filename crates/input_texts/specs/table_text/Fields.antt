-- What a field is read as, and nothing where it is not what is asked for. Own choice.
use Rattle.std.specs.Prelude.{ℕ, ℤ, pos, negsuc, List, Option, Some, None, ◌&&◌, nat_le, nat_lt, ◌^◌, if◌then◌else◌}
use Rattle.std.specs.Option.{option_and_then}
use Rattle.std.specs.Result.{result_ok}
use Rattle.std.specs.Str.Parse.{digits_value, starts_with_minus}
use Rattle.rational.specs.Rational.{ℚ, lt_q}
use Rattle.min_plus.specs.Functions.{zero_q}
use Rattle.fraction128.specs.Text.{parse_of, is_numeral, unsigned_text, signed_value}

-- a number: `p` or `p/q`, as in a file of a network
abbrev pub number_in : List ℕ → Option ℚ
number_in text = result_ok (parse_of text)

abbrev pub not_below_zero : ℚ → Option ℚ
not_below_zero x = if lt_q x zero_q then None else Some x

-- a number from 0 on
abbrev pub time_in : List ℕ → Option ℚ
time_in text = option_and_then not_below_zero (number_in text)

-- a number of 64 bits with its sign
abbrev pub in_64_bits : ℤ → Option ℤ
in_64_bits (pos n) = if nat_lt n (2 ^ 63) then Some (pos n) else None
in_64_bits (negsuc n) = if nat_lt n (2 ^ 63) then Some (negsuc n) else None

-- a whole number of 64 bits: digits, and a minus sign before them or none
abbrev pub whole_in : List ℕ → Option ℤ
whole_in text =
    if is_numeral (unsigned_text text)
    then in_64_bits (signed_value (starts_with_minus text) (digits_value 10 (unsigned_text text)))
    else None

-- 1 to 2^24
abbrev pub length_of : ℤ → Option ℕ
length_of (pos n) = if nat_le 1 n && nat_le n 16777216 then Some n else None
length_of (negsuc n) = None

-- the bits of a packet
abbrev pub bits_in : List ℕ → Option ℕ
bits_in text = option_and_then length_of (whole_in text)
