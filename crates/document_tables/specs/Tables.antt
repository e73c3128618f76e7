-- A table: a head line, and rows of which each one is read behind those before it. The first fault of a table is that of its
-- first row that has one. Own choice.
use Rattle.std.specs.Prelude.{◌≡◌, ℕ, List, [], ◌∷◌, Result, Ok, Err}
use Rattle.csv_rows.specs.declared.rows.TableRow.{TableRow}
use Rattle.csv_rows.specs.Rows.{LinedRow, Row, cells_of}
use Rattle.document_rows.specs.declared.fault.Column.TheVariants as column
use Rattle.document_rows.specs.declared.fault.Wrong.TheVariants.{Missing}
use Rattle.document_rows.specs.declared.fault.RowError.{RowError}
use Rattle.document_rows.specs.declared.fault.RowError.TheVariants.{Cell, NoMemory}
use Rattle.document_rows.specs.Reads.{RowRead, and_then}
use Rattle.document_tables.specs.declared.fault.LineFault.{LineFault}
use Rattle.document_tables.specs.declared.fault.LineError.{LineError}
use Rattle.document_tables.specs.declared.fault.LineError.TheVariants as errors

-- a row, and the line on which it begins
pub record LineRow : Type 0 where
  pub line : ℕ
  pub cells : Row

abbrev pub row_view : TableRow → LineRow
row_view row = record { line = row.line; cells = cells_of row }

-- the same of a row that is yet to come
abbrev pub line_row : LinedRow → LineRow
line_row row = record { line = row.0; cells = row.1 }

abbrev pub TableRead : Type 0 → Type 0
TableRead X = Result X LineFault

-- what is read of the row of a line
abbrev pub at_line : {X : Type 0} → ℕ → RowRead X → TableRead X
at_line line (Ok x) = Ok x
at_line line (Err fault) = Err (record { line = line; column = fault.column; wrong = fault.wrong })

-- what rows make of what the rows before them made
unfoldable pub after_rows : {S : Type 0} → (S → Row → RowRead S) → S → List LineRow → TableRead S
after_rows step made [] = Ok made
after_rows step made (row ∷ rows) = and_then (at_line row.line (step made row.cells)) (λ next. after_rows step next rows)

-- a table, by what is read of its head line, and what each row makes of what the rows before it made; one without a
-- head line lacks its first column
unfoldable pub table_of : {H S : Type 0} → (Row → RowRead H) → (H → S → Row → RowRead S) → S → List LineRow → TableRead S
table_of head step none [] = Err (record { line = 1; column = column.Name; wrong = Missing })
table_of head step none (first ∷ rows) =
    and_then (at_line first.line (head first.cells)) (λ h. after_rows (step h) none rows)

-- ---- what calls answer
-- a row made the new of the old, or has this fault; want of memory says nothing
abbrev pub Makes : {S : Type 0} → Result (Unit {0}) RowError → RowRead S → S → Type 0
Makes (Ok u) read made = read ≡ Ok made
Makes (Err (Cell fault)) read made = read ≡ Err fault
Makes (Err NoMemory) read made = Unit {0}

abbrev pub TellsTable : {X Y : Type 0} → (X → Y) → Result X LineError → TableRead Y → Type 0
TellsTable view (Ok x) read = read ≡ Ok (view x)
TellsTable view (Err (errors.Fault fault)) read = read ≡ Err fault
TellsTable view (Err errors.NoMemory) read = Unit {0}

abbrev pub line_error : ℕ → RowError → LineError
line_error line (Cell fault) = errors.Fault (record { line = line; column = fault.column; wrong = fault.wrong })
line_error line NoMemory = errors.NoMemory

abbrev pub no_head : LineError
no_head = errors.Fault (record { line = 1; column = column.Name; wrong = Missing })
