-- The rows of a table: cells without the white space at both ends, where some cell is not empty, and the line on which each
-- begins. How cells stand in a text, with double quotes or without, is that of the crate `csv`.
use Rattle.std.specs.Prelude.{◌≡◌, ℕ, List, [], ◌∷◌, ◌++◌, ◌+◌, ◌-◌, map, unwrap_or, Bool, ◌==◌, ◌||◌, Some, None, length, if◌then◌else◌}
use Rattle.std.specs.List.{list_all, count_by}
use Rattle.csv.specs.Machine.{Read, next_record, carriage_return, line_feed}
use Rattle.csv.specs.Records.{field_at, fields_of, trimmed}
use Rattle.csv.specs.Reading.{default_config, strip_bom}
use Rattle.csv.specs.declared.parser.State.{State}
use Rattle.csv.specs.declared.parser.State.TheVariants as st
use Rattle.csv_rows.specs.declared.rows.TableRow.{TableRow}

abbrev pub Row : Type 0
Row = List (List ℕ)

-- ---- cells
-- the cell of a column; empty where the row is shorter
abbrev pub cell : Row → ℕ → List ℕ
cell row place = unwrap_or (field_at row place) []

abbrev pub is_empty : List ℕ → Bool
is_empty cell = length cell == 0

-- all its cells are empty: such a row is passed over
abbrev pub is_blank : Row → Bool
is_blank = list_all is_empty

abbrev pub cells_of : TableRow → Row
cells_of row = fields_of row.cells

-- ---- lines
abbrev pub is_line_feed : ℕ → Bool
is_line_feed byte = byte == line_feed

-- how many lines end in a text
abbrev pub line_ends : List ℕ → ℕ
line_ends text = count_by is_line_feed text

-- a byte that ends a row, and is no part of the next one
abbrev pub is_row_end : ℕ → Bool
is_row_end byte = (byte == carriage_return) || (byte == line_feed)

-- what is left of a text from the first byte of its first row on
unfoldable pub from_row : List ℕ → List ℕ
from_row [] = []
from_row (byte ∷ text) = if is_row_end byte then from_row text else byte ∷ text

-- The line on which the next row begins, where this much of a text is left: one more than the lines that end before the
-- first byte of the row.
abbrev pub line_of : (text left : List ℕ) → ℕ
line_of text left = line_ends text - line_ends (from_row left) + 1

-- ---- rows
-- a row, and the line on which it begins, from 1
abbrev pub LinedRow : Type 0
LinedRow = ℕ × Row

abbrev pub lined_of : TableRow → LinedRow
lined_of row = (row.line, cells_of row)

-- These rows are the next ones of a text, each with its line: they take a reader from this state and what is left of the text
-- to that state and what is left then.
unfoldable pub AreNextOf : (text : List ℕ) → State → List ℕ → List LinedRow → State → List ℕ → Type 0
AreNextOf text before left [] after rest = (before ≡ after) × (left ≡ rest)
AreNextOf text before left (row ∷ rows) after rest =
    (read : Read) × (next_record default_config before [] [] left ≡ Some read)
    × (row ≡ (line_of text left, read.0)) × AreNextOf text read.1 read.2 rows after rest

-- a row, unless all its cells are empty
abbrev pub used_of : LinedRow → List LinedRow
used_of row = if is_blank (map trimmed row.1) then [] else (row.0, map trimmed row.1) ∷ []

unfoldable pub used : List LinedRow → List LinedRow
used [] = []
used (row ∷ rows) = used_of row ++ used rows

-- Those of the rows of a text of which some cell is not empty. A byte order mark before the first is no part of the text.
pub record AreLinedRowsOf (text : List ℕ) (rows : List LinedRow) : Type 0 where
  pub records : List LinedRow
  pub state : State
  pub rest : List ℕ
  pub are : AreNextOf (strip_bom text) st.StartRecord (strip_bom text) records state rest
  pub last : next_record default_config state [] [] rest ≡ None
  pub all : rows ≡ used records
