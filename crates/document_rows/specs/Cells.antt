-- What cells are read as. Own choice.
use Rattle.std.specs.Prelude.{ℕ, List, Option, Some, None, Result, Ok, Err, not, nat_lt, ok_or, if◌then◌else◌}
use Rattle.table_cells.specs.declared.amount.Amount.{Amount}
use Rattle.table_cells.specs.Amounts.{amount_in, few_digits, is_at_most, is_whole, reaches_one, whole}
use Rattle.table_cells.specs.Names as names
use Rattle.document_rows.specs.declared.fault.Wrong.TheVariants.{Empty, NoName, NoNumber, NoWhole, TooSmall, TooLarge, OffGrid}
use Rattle.document_rows.specs.Reads.{CellRead, and_then}
use Rattle.document_rows.specs.Rows.{is_empty}

-- a name
abbrev pub name_in : List ℕ → CellRead (List ℕ)
name_in cell = if is_empty cell then Err Empty else (if names.is_name cell then Ok cell else Err NoName)

-- an exact number
abbrev pub number_in : List ℕ → CellRead Amount
number_in cell = if is_empty cell then Err Empty else ok_or (amount_in cell) NoNumber

-- a number of which so many are one at least, and that is at most so much
abbrev pub within : (times most : ℕ) → Amount → CellRead Amount
within times most n =
    if not (reaches_one n times) then Err TooSmall else (if not (is_at_most n most) then Err TooLarge else Ok n)

-- a time in microseconds: at most 1,000 seconds
abbrev pub longest_time : ℕ
longest_time = 1000000000

abbrev pub time_in : List ℕ → CellRead Amount
time_in cell = and_then (number_in cell) (λ n. if not (is_at_most n longest_time) then Err TooLarge else Ok n)

abbrev pub time_or_zero : List ℕ → CellRead Amount
time_or_zero cell = if is_empty cell then Ok (whole 0) else time_in cell

-- the time on a link: the same, in whole picoseconds
abbrev pub on_grid : Amount → CellRead Amount
on_grid n = if not (is_whole 1000000 n) then Err OffGrid else Ok n

abbrev pub link_time : List ℕ → CellRead Amount
link_time cell = and_then (time_or_zero cell) on_grid

-- a rate in Mbit/s: a bit a second at least, and at most 10^6
abbrev pub rate_in : List ℕ → CellRead Amount
rate_in cell = and_then (number_in cell) (within 1000000 1000000)

-- a gap in milliseconds: a picosecond at least, and at most 10^6
abbrev pub gap_in : List ℕ → CellRead Amount
gap_in cell = and_then (number_in cell) (within 1000000000 1000000)

-- a whole number in a range
abbrev pub in_range : (least most n : ℕ) → CellRead ℕ
in_range least most n =
    if nat_lt n least then Err TooSmall else (if nat_lt most n then Err TooLarge else Ok n)

abbrev pub whole_between : (least most : ℕ) → List ℕ → CellRead ℕ
whole_between least most cell =
    if is_empty cell then Err Empty else and_then (ok_or (few_digits cell) NoWhole) (in_range least most)
