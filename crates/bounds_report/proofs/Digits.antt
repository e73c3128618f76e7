-- Digits behind the point, and the least count of them that writes a number whole.
use Rattle.std.proofs.Common.{◌≡◌, ◌≢◌, ◌≤◌, ◌<◌, ◌+◌, ◌-◌, ◌/◌, ◌%◌, ◌++◌, ℕ, zero, suc, Bool, true, false, ◌∷◌, ap, refl, ◌∙◌, arith, Some, None}
use Rattle.std.specs.List.{find, range_with_len}
use Rattle.std.specs.Fmt.{decimal}
use Rattle.std.specs.Prelude.{codes}
use Rattle.bounds_report.specs.Numbers.{thousandths, with_digits}

-- the digits behind the point are those of the rest
pub digits_of_rest : (n : ℕ) → decimal (n / 1000) ++ (codes "." ++ (decimal (n % 1000 / 100) ++ (decimal (n % 1000 / 10 % 10) ++ decimal (n % 1000 % 10)))) ≡ thousandths n
unfolding thousandths
digits_of_rest n =
    let first : n % 1000 / 100 ≡ n / 100 % 10 = omega arith in
    let second : n % 1000 / 10 % 10 ≡ n / 10 % 10 = omega arith in
    let third : n % 1000 % 10 ≡ n % 10 = omega arith in
    rw (first, second, third) refl

range_next : (from count : ℕ) → 0 < count → range_with_len from count ≡ from ∷ range_with_len (from + 1) (count - 1)
range_next from zero h = absurd (omega arith)
range_next from (suc count) h =
    let one : suc count - 1 ≡ count = omega arith in
    rw one refl

pub found_here : (test : ℕ → Bool) (at : ℕ) → at < 16 → test at ≡ true → find test (range_with_len at (16 - at)) ≡ Some at
found_here test at h e = ap (find test) (range_next at (16 - at) (omega arith)) ∙ rw e refl

pub found_later : (test : ℕ → Bool) (at : ℕ) → at < 16 → test at ≡ false
    → find test (range_with_len at (16 - at)) ≡ find test (range_with_len (at + 1) (16 - (at + 1)))
found_later test at h e =
    let less : 16 - at - 1 ≡ 16 - (at + 1) = omega arith in
    ap (find test) (range_next at (16 - at) (omega arith)) ∙ rw (e, less) refl

pub found_nowhere : (test : ℕ → Bool) (at : ℕ) → 16 ≤ at → find test (range_with_len at (16 - at)) ≡ None
found_nowhere test at h =
    let none : 16 - at ≡ 0 = omega arith in
    rw none refl

pub one_digit_more : (more n : ℕ) → more ≢ 0 → with_digits more n ≡ with_digits (more - 1) (n / 10) ++ decimal (n % 10)
unfolding with_digits
one_digit_more zero n h = absurd (h refl)
one_digit_more (suc more) n h =
    let one : suc more - 1 ≡ more = omega arith in
    rw one refl
