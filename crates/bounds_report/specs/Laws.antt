-- What the texts of numbers in a report say, read as the cells of a table are.
use Rattle.std.specs.Prelude.{◌≡◌, ◌<◌, ℕ, ◌+◌, ◌/◌, ◌^◌, Some}
use Rattle.std.specs.Fmt.{decimal}
use Rattle.std.specs.Str.Parse.{IsNumeral, digits_value}
use Rattle.table_cells.specs.declared.amount.Amount.{Amount}
use Rattle.table_cells.specs.Amounts.{amount_in}
use Rattle.bounds_report.specs.Numbers.{microseconds, thousandths}

-- so many thousandths
abbrev pub over_thousand : ℕ → Amount
over_thousand n = record { top = n; bottom = 1000 }

pub record TextsAreNumbers : Type 0 where
  -- a load in thousandths
  pub loads : (n : ℕ) → n < 10 ^ 18 → amount_in (thousandths n) ≡ Some (over_thousand n)
  -- a time in picoseconds: microseconds, rounded up to thousandths
  pub times : (n : ℕ) → n < 2 ^ 64 → amount_in (microseconds n) ≡ Some (over_thousand ((n + 999) / 1000))
  -- a backlog
  pub backlogs : (n : ℕ) → n < 2 ^ 64 → IsNumeral 10 (decimal n) × (digits_value 10 (decimal n) ≡ n)
