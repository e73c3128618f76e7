-- How numbers of a report are written: microseconds and loads with three digits behind the point, rounded up; deadlines
-- exact. Own choice.
use Rattle.std.specs.Prelude.{ℕ, zero, suc, ◌+◌, ◌*◌, ◌/◌, ◌%◌, ◌^◌, ◌==◌, Bool, false, nat_le, List, ◌++◌, codes, Option, Some, None}
use Rattle.std.specs.List.{find, range_with_len}
use Rattle.std.specs.Fmt.{decimal}
use Rattle.table_cells.specs.declared.amount.Amount.{Amount}
use Rattle.rational.specs.Gcd.{gcd}

-- so many thousandths
unfoldable pub thousandths : ℕ → List ℕ
thousandths n =
    decimal (n / 1000) ++ (codes "." ++ (decimal (n / 100 % 10) ++ (decimal (n / 10 % 10) ++ decimal (n % 10))))

-- picoseconds, as microseconds
abbrev pub microseconds : ℕ → List ℕ
microseconds n = thousandths ((n + 999) / 1000)

-- or that there is no number
abbrev pub or_none : (ℕ → List ℕ) → Option ℕ → List ℕ
or_none text None = codes "none"
or_none text (Some n) = text n

-- ---- exact
-- a number of thousandths, of ten thousandths .., with so many digits behind the point more than three
unfoldable pub with_digits : ℕ → ℕ → List ℕ
with_digits zero n = thousandths n
with_digits (suc more) n = with_digits more (n / 10) ++ decimal (n % 10)

-- a number is written whole with so many digits behind the point more than three
abbrev pub is_written : Amount → ℕ → Bool
is_written a more = a.top * 10 ^ (3 + more) % a.bottom == 0

-- The least of such counts, of at most 18 digits. A number that digits and a point write has one.
abbrev pub more_digits : Amount → Option ℕ
more_digits a = find (is_written a) (range_with_len 0 16)

-- as a fraction in lowest terms
abbrev pub as_fraction : Amount → List ℕ
as_fraction a =
    let common = gcd a.top a.bottom in
    decimal (a.top / common) ++ (codes "/" ++ decimal (a.bottom / common))

abbrev pub exact_by : Option ℕ → Amount → List ℕ
exact_by None a = as_fraction a
exact_by (Some more) a = with_digits more (a.top * 10 ^ (3 + more) / a.bottom)

-- A number, never rounded: with three digits behind the point or as many more as it takes, and else as a fraction.
abbrev pub exact : Amount → List ℕ
exact a = exact_by (more_digits a) a

-- a bound in picoseconds is at most a deadline in microseconds; none is
abbrev pub is_met : Option ℕ → Amount → Bool
is_met None deadline = false
is_met (Some bound) deadline = nat_le (bound * deadline.bottom) (deadline.top * 1000000)
