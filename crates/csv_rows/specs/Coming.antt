-- The rows that a reader of rows has yet to give.
use Rattle.std.specs.Prelude.{◌≡◌, ◌≤◌, ◌<◌, ◌+◌, ◌-◌, ◌^◌, ℕ, zero, suc, Bool, true, false, List, [], ◌∷◌, Option, Some, None, length, unwrap_or}
use Rattle.csv.specs.Machine.{Read, next_record}
use Rattle.csv.specs.Reading.{Ready, default_config, source_of}
use Rattle.csv.specs.declared.parser.State.{State}
use Rattle.csv.specs.declared.reader.Trim.TheVariants as trim
use Rattle.csv_rows.specs.Places.{IsBetween}
use Rattle.csv_rows.specs.Rows.{LinedRow, from_row, line_ends, lined_of, used}
use Rattle.csv_rows.specs.declared.rows.TableRow.{TableRow}
use Rattle.csv_rows.specs.declared.reading.TableRows.{TableRows}

-- ---- of a text
-- the line on which the next row begins, where so many lines end in a text and this much of it is left
abbrev pub line_in : (ends : ℕ) → (left : List ℕ) → ℕ
line_in ends left = ends - line_ends (from_row left) + 1

-- a row that was read, and those behind it
abbrev pub rows_next : (line : ℕ) → (State → List ℕ → List LinedRow) → Option Read → List LinedRow
rows_next line more None = []
rows_next line more (Some read) = (line, read.0) ∷ more read.1 read.2

-- the rows of what is left of a text in which so many lines end, at most so many rows
unfoldable pub rows_from : (ends most : ℕ) → State → List ℕ → List LinedRow
rows_from ends zero state left = []
rows_from ends (suc most) state left =
    rows_next (line_in ends left) (rows_from ends most) (next_record default_config state [] [] left)

-- ---- of a reader
abbrev pub left_of : TableRows → List ℕ
left_of rows = unwrap_or (source_of (λ s. Some s.now) rows.reader) []

abbrev pub ends_of : TableRows → ℕ
ends_of rows = rows.lines.line + line_ends rows.lines.rest.now - 1

-- all of them, as they are in the text
unfoldable pub all_of : TableRows → List LinedRow
all_of rows = rows_from (ends_of rows) (suc (length (left_of rows))) rows.reader.state (left_of rows)

-- those of which some cell is not empty, without the white space at both ends of cells
abbrev pub rows_of : TableRows → List LinedRow
rows_of rows = used (all_of rows)

-- it reads between two rows, and counts the lines behind the same one
pub record Stands (rows : TableRows) : Type 0 where
  pub trims : rows.reader.trim ≡ trim.None
  pub ready : Ready rows.reader
  pub setup : rows.reader.config ≡ default_config
  pub between : IsBetween rows.reader.state
  pub first : 1 ≤ rows.lines.line
  pub within : rows.lines.line + line_ends rows.lines.rest.now < 2 ^ 64
  pub left : List ℕ
  pub source : source_of (λ s. Some s.now) rows.reader ≡ Some left
  pub same : from_row rows.lines.rest.now ≡ from_row left

-- ---- steps
-- whether there was a row, which is the first of all, or of those with a cell that is not empty
abbrev pub Reads : Bool → (old : TableRows) → TableRow → (new : TableRows) → Type 0
Reads true old row new = Stands new × (all_of old ≡ lined_of row ∷ all_of new)
Reads false old row new = all_of old ≡ []

abbrev pub Gives : Bool → (old : TableRows) → TableRow → (new : TableRows) → Type 0
Gives true old row new = Stands new × (rows_of old ≡ lined_of row ∷ rows_of new)
Gives false old row new = rows_of old ≡ []
