-- A fraction as text: what is printed, and what is read. Own choice.
use Rattle.std.specs.Prelude.{ℕ, zero, suc, ◌+◌, ◌-◌, ◌^◌, Bool, not, ◌&&◌, ◌||◌, nat_lt, ◌==◌, if◌then◌else◌, ℤ, pos, neg_ℤ, List, [], ◌∷◌, ◌++◌, length, take, drop, Option, Some, None, Result, Ok, Err}
use Rattle.std.specs.Fmt.{decimal, signed_decimal}
use Rattle.std.specs.List.{list_all, position}
use Rattle.std.specs.Char.{is_ascii_digit}
use Rattle.std.specs.Str.Parse.{digits_value, starts_with_minus}
use Rattle.rational.specs.Rational.{ℚ, over}
use Rattle.fraction128.specs.declared.fault.FracText.{FracText}
use Rattle.fraction128.specs.declared.fault.FracText.TheVariants.{Form, Past, ZeroDen}

-- ---- printing
-- p, or p/q where q is above 1: for p / (pre + 1)
abbrev pub text_over : ℤ → ℕ → List ℕ
text_over p zero = signed_decimal p
text_over p (suc k) = signed_decimal p ++ 47 ∷ decimal (suc (suc k))

-- in lowest terms
abbrev pub text_of : ℚ → List ℕ
text_of x = text_over x.num x.pre

-- ---- reading
-- the largest size of a written number
abbrev pub largest : ℕ
largest = 2 ^ 127 - 1

-- one digit or more, and nothing else
abbrev pub is_numeral : List ℕ → Bool
is_numeral ds = nat_lt 0 (length ds) && list_all is_ascii_digit ds

-- the byte `/`
abbrev pub is_slash : ℕ → Bool
is_slash b = b == 47

-- the text without the minus sign that may stand first
abbrev pub unsigned_text : List ℕ → List ℕ
unsigned_text text = if starts_with_minus text then drop 1 text else text

-- the bytes before the first slash, or all of them
abbrev pub before_at : Option ℕ → List ℕ → List ℕ
before_at None bytes = bytes
before_at (Some at) bytes = take at bytes

-- those after it, or the digit 1
abbrev pub after_at : Option ℕ → List ℕ → List ℕ
after_at None bytes = 49 ∷ []
after_at (Some at) bytes = drop (at + 1) bytes

-- the digits of the first number, and those of the second
abbrev pub top_text : List ℕ → List ℕ
top_text text = before_at (position is_slash (unsigned_text text)) (unsigned_text text)

abbrev pub bottom_text : List ℕ → List ℕ
bottom_text text = after_at (position is_slash (unsigned_text text)) (unsigned_text text)

-- the number with the sign
abbrev pub signed_value : Bool → ℕ → ℤ
signed_value minus n = if minus then neg_ℤ (pos n) else pos n

-- what a sign and the digits of two numbers write. Their form is looked at first, then how large the numbers are,
-- then whether the second is 0
abbrev pub number_from : Bool → List ℕ → List ℕ → Result ℚ FracText
number_from minus top bottom =
    let p = digits_value 10 top in
    let q = digits_value 10 bottom in
    if not (is_numeral top && is_numeral bottom) then Err Form
    else (if nat_lt largest p || nat_lt largest q then Err Past
    else (if q == 0 then Err ZeroDen else Ok (over (signed_value minus p) q)))

-- what a text is read as
abbrev pub parse_of : List ℕ → Result ℚ FracText
parse_of text = number_from (starts_with_minus text) (top_text text) (bottom_text text)
