-- What is printed of a fraction is read as it.
use Rattle.std.specs.Prelude.{◌≡◌, ℕ, zero, suc, ◌<◌, ◌≤◌, ◌^◌, Bool, true, false, cond, nat_lt, ◌==◌, List, [], ◌∷◌, ◌++◌, length, Option, Some, None, ℤ, pos, negsuc, unsigned_abs, Ok}
use Rattle.std.proofs.Common.{arith, sym, ap, ap₂, ◌∙◌, subst, refl, append-nil, length-append}
use Rattle.std.proofs.lemmas.Bool.Decides.{nat_tests}
use Rattle.std.proofs.Math.Seq.{take-append_seam, drop-append-add}
use Rattle.std.proofs.lemmas.Str.Parse.{digit_from_value}
use Rattle.std.proofs.lemmas.Fmt.{decimal_is_IsNumeral_wide}
use Rattle.std.specs.Fmt.{decimal}
use Rattle.std.specs.List.{list_all, position, position_or_len}
use Rattle.std.specs.Char.{is_ascii_digit, digit_value}
use Rattle.std.specs.Str.Parse.{starts_with_minus, AllDigits, IsNumeral}
use Rattle.rational.specs.Gauge.{cap}
use Rattle.rational.specs.Rational.{ℚ}
use Rattle.rational.specs.Fractions.{frac_self}
use Rattle.rational.specs.Ratio.{ratio, IsSmall}
use Rattle.fraction128.specs.Text.{text_over, text_of, largest, is_numeral, is_slash, before_at, after_at, signed_value, number_from, parse_of}
use Rattle.fraction128.proofs.Parsed.{number_ok}

-- ---- digits
all_digits : (ds : List ℕ) → AllDigits 10 ds → list_all is_ascii_digit ds ≡ true
all_digits [] h = refl
all_digits (c ∷ cs) h =
    let range = digit_from_value c h.0 in
    let one : is_ascii_digit c ≡ true = grind (arith, nat_tests) in
    rw (one, all_digits cs h.1) refl

numeral : (ds : List ℕ) → IsNumeral 10 ds → is_numeral ds ≡ true
numeral ds h = let some : nat_lt 0 (length ds) ≡ true = grind (arith, nat_tests, h.0) in rw (some, all_digits ds h.1) refl

no_slash : (c : ℕ) → digit_value c < 10 → is_slash c ≡ false
no_slash c h = let range = digit_from_value c h in grind (arith, nat_tests)

no_minus : (c : ℕ) → digit_value c < 10 → (c == 45) ≡ false
no_minus c h = let range = digit_from_value c h in grind (arith, nat_tests)

-- the slash stands where the digits end
past_digits : (ds rest : List ℕ) → AllDigits 10 ds → position_or_len is_slash (ds ++ 47 ∷ rest) ≡ length ds
past_digits [] rest h = refl
past_digits (c ∷ cs) rest h = rw (no_slash c h.0, past_digits cs rest h.1) (omega arith)

only_digits : (ds : List ℕ) → AllDigits 10 ds → position_or_len is_slash ds ≡ length ds
only_digits [] h = refl
only_digits (c ∷ cs) h = rw (no_slash c h.0, only_digits cs h.1) (omega arith)

found : (xs : List ℕ) (i : ℕ) → position_or_len is_slash xs ≡ i → i < length xs → position is_slash xs ≡ Some i
found xs i e l = rw e (let yes : nat_lt i (length xs) ≡ true = grind (arith, nat_tests) in rw yes refl)

missing : (xs : List ℕ) → position_or_len is_slash xs ≡ length xs → position is_slash xs ≡ None
missing xs e = rw e (let no : nat_lt (length xs) (length xs) ≡ false = grind (arith, nat_tests) in rw no refl)

-- ---- the sign
abbrev signed_text : Bool → List ℕ → List ℕ
signed_text minus bytes = cond minus (45 ∷ bytes) bytes

first_digit : (ds rest : List ℕ) → IsNumeral 10 ds → starts_with_minus (ds ++ rest) ≡ false
first_digit [] rest h = absurd (omega (arith, h.0))
first_digit (c ∷ cs) rest h = no_minus c h.1.0

-- what a sign and the digits of two numbers are read as, where they are the parts of a text
split_is : (minus : Bool) (bytes : List ℕ) (o : Option ℕ) → starts_with_minus bytes ≡ false → position is_slash bytes ≡ o
    → parse_of (signed_text minus bytes) ≡ number_from minus (before_at o bytes) (after_at o bytes)
split_is true bytes o p q = rw q refl
split_is false bytes o p q = rw (p, q) refl

within_cap : (n : ℕ) → n ≤ largest → n ≡ cap n
unfolding cap
within_cap n h = omega (arith, h)

largest_short : (n : ℕ) → n ≤ largest → n < 10 ^ 64
largest_short n h = omega (arith, h)

-- ---- a whole number, and a quotient
whole_back : (minus : Bool) (n : ℕ) → n ≤ largest → parse_of (signed_text minus (decimal n)) ≡ Ok (ratio (signed_value minus n) (pos 1))
whole_back minus n h =
    let is = decimal_is_IsNumeral_wide n (largest_short n h) in
    let bytes = decimal n in
    let first : starts_with_minus bytes ≡ false = subst (λ b. starts_with_minus b ≡ false) (append-nil bytes) (first_digit bytes [] is.0) in
    split_is minus bytes None first (missing bytes (only_digits bytes is.0.1))
    ∙ number_ok minus bytes (49 ∷ []) n 1 (numeral bytes is.0) refl (within_cap n h ∙ ap cap (sym is.1)) (within_cap 1 (omega arith)) h (omega arith) (λ e. omega (arith, e))

quotient_back : (minus : Bool) (n d : ℕ) → n ≤ largest → d ≤ largest → 0 < d → parse_of (signed_text minus (decimal n ++ 47 ∷ decimal d)) ≡ Ok (ratio (signed_value minus n) (pos d))
quotient_back minus n d h k some =
    let top = decimal n in
    let bottom = decimal d in
    let bytes = top ++ 47 ∷ bottom in
    let is = decimal_is_IsNumeral_wide n (largest_short n h) in
    let under = decimal_is_IsNumeral_wide d (largest_short d k) in
    let long : length top < length bytes = rw (length-append top (47 ∷ bottom)) (omega arith) in
    let at : position is_slash bytes ≡ Some (length top) = found bytes (length top) (past_digits top bottom is.0.1) long in
    split_is minus bytes (Some (length top)) (first_digit top (47 ∷ bottom) is.0) at
    ∙ ap₂ (number_from minus) (take-append_seam top (47 ∷ bottom)) (drop-append-add top (47 ∷ bottom) 1)
    ∙ number_ok minus top bottom n d (numeral top is.0) (numeral bottom under.0) (within_cap n h ∙ ap cap (sym is.1)) (within_cap d k ∙ ap cap (sym under.1)) h k (λ e. omega (arith, e, some))

back : (z : ℤ) (k : ℕ) → unsigned_abs z ≤ largest → suc k ≤ largest → parse_of (text_over z k) ≡ Ok (ratio z (pos (suc k)))
back (pos n) zero h l = whole_back false n h
back (negsuc n) zero h l = whole_back true (suc n) h
back (pos n) (suc k) h l = quotient_back false n (suc (suc k)) h l (omega arith)
back (negsuc n) (suc k) h l = quotient_back true (suc n) (suc (suc k)) h l (omega arith)

pub reads_back : (x : ℚ) → IsSmall x → parse_of (text_of x) ≡ Ok x
reads_back x h = back x.num x.pre (omega (arith, h.top)) (omega (arith, h.bottom)) ∙ ap Ok (sym (frac_self x))
