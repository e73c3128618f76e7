-- Rows of a table, one after another.
use Rattle.std.proofs.Common.{◌≡◌, ℕ, ◌+◌, ◌<◌, ◌≤◌, List, [], ◌∷◌, map, length, drop, get_or, Result, Ok, Err, sym, ap, subst, ◌∙◌, arith}
use Rattle.std.specs.Result.{IsErrAnd}
use Rattle.std.proofs.lemmas.List.{drop_more, drop_all, get_or-map, length-map}
use Rattle.std.proofs.lemmas.Result.{err_from_is_err_and}
use Rattle.csv_rows.specs.declared.rows.TableRow.{TableRow}
use Rattle.csv_rows.specs.Rows.{LinedRow, Row}
use Rattle.document_rows.specs.declared.fault.CellFault.{CellFault}
use Rattle.document_rows.specs.Reads.{RowRead, and_then}
use Rattle.document_rows.specs.declared.fault.RowError.{RowError}
use Rattle.document_rows.specs.declared.fault.RowError.TheVariants.{Cell, NoMemory}
use Rattle.document_tables.specs.Tables.{LineRow, TableRead, at_line, after_rows, line_row, row_view, Makes, TellsTable, line_error}

module _ {S : Type 0} (step : S → Row → RowRead S) where
  step_of : (made : S) (rows : List LineRow) (k : ℕ) (row : LineRow) → k < length rows → get_or rows k row ≡ row
      → after_rows step made (drop k rows) ≡ and_then (at_line row.line (step made row.cells)) (λ next. after_rows step next (drop (k + 1) rows))
  unfolding after_rows
  step_of made rows k row h is = ap (after_rows step made) (drop_more rows k row h ∙ ap (λ (r : LineRow). r ∷ drop (k + 1) rows) is)

  pub after_more : (made next : S) (rows : List LineRow) (k : ℕ) (row : LineRow) → k < length rows → get_or rows k row ≡ row → step made row.cells ≡ Ok next
      → after_rows step made (drop k rows) ≡ after_rows step next (drop (k + 1) rows)
  after_more made next rows k row h is ok =
      step_of made rows k row h is ∙ ap (λ read. and_then (at_line row.line read) (λ next. after_rows step next (drop (k + 1) rows))) ok

  pub after_fault : (made : S) (fault : CellFault) (rows : List LineRow) (k : ℕ) (row : LineRow) → k < length rows → get_or rows k row ≡ row → step made row.cells ≡ Err fault
      → after_rows step made (drop k rows) ≡ Err (record { line = row.line; column = fault.column; wrong = fault.wrong })
  after_fault made fault rows k row h is wrong =
      step_of made rows k row h is ∙ ap (λ read. and_then (at_line row.line read) (λ next. after_rows step next (drop (k + 1) rows))) wrong

  pub after_all : (made : S) (rows : List LineRow) (k : ℕ) → length rows ≤ k → after_rows step made (drop k rows) ≡ Ok made
  unfolding after_rows
  after_all made rows k h = ap (after_rows step made) (drop_all k rows h)

  -- a fault of a row is that of the table; want of memory says nothing
  pub told : {X : Type 0} (view : X → S) (error : RowError) (line : ℕ) (read : RowRead S) (made : S) (whole : TableRead S) → Makes (Err error) read made
      → ((fault : CellFault) → read ≡ Err fault → whole ≡ Err (record { line = line; column = fault.column; wrong = fault.wrong })) → TellsTable view (Err (line_error line error)) whole
  told view (Cell fault) line read made whole h f = f fault h
  told view NoMemory line read made whole h f = tt

  -- ---- rows that are kept with their lines
  seen_at : (items : List TableRow) (k : ℕ) (row : TableRow) → k < length items → row ≡ get_or items k row
      → (k < length (map row_view items)) × (get_or (map row_view items) k (row_view row) ≡ row_view row)
  seen_at items k row below is =
      let n = length-map items row_view in
      (omega (arith, n, below), get_or-map row_view items k row (row_view row) below ∙ ap row_view (sym is))

  pub row_more : (made next : S) (items : List TableRow) (k : ℕ) (row : TableRow) → k < length items → row ≡ get_or items k row → step made (row_view row).cells ≡ Ok next
      → after_rows step made (drop k (map row_view items)) ≡ after_rows step next (drop (k + 1) (map row_view items))
  row_more made next items k row below is ok =
      let s = seen_at items k row below is in after_more made next (map row_view items) k (row_view row) s.0 s.1 ok

  pub row_told : {X : Type 0} (view : X → S) (made next : S) (items : List TableRow) (k : ℕ) (row : TableRow) (error : RowError) (whole : TableRead S) → k < length items → row ≡ get_or items k row
      → whole ≡ after_rows step made (drop k (map row_view items)) → Makes (Err error) (step made (row_view row).cells) next → TellsTable view (Err (line_error row.line error)) whole
  row_told view made next items k row error whole below is so_far makes =
      let s = seen_at items k row below is in
      told view error row.line (step made (row_view row).cells) next whole makes
      (λ fault e. so_far ∙ after_fault made fault (map row_view items) k (row_view row) s.0 s.1 e)

  pub all_read : (made : S) (items : List TableRow) (k : ℕ) → length items ≤ k → after_rows step made (drop k (map row_view items)) ≡ Ok made
  all_read made items k past = let n = length-map items row_view in after_all made (map row_view items) k (omega (arith, n, past))

  -- ---- rows that are taken one after the other
  pub taken_more : (made next : S) (rest more : List LinedRow) (row : LinedRow) → rest ≡ row ∷ more → step made row.1 ≡ Ok next
      → after_rows step made (map line_row rest) ≡ after_rows step next (map line_row more)
  unfolding after_rows
  taken_more made next rest more row is ok =
      ap (λ (rows : List LinedRow). after_rows step made (map line_row rows)) is
      ∙ ap (λ read. and_then (at_line row.0 read) (λ next. after_rows step next (map line_row more))) ok

  pub taken_told : {X : Type 0} (view : X → S) (made next : S) (rest more : List LinedRow) (row : LinedRow) (error : RowError) (whole : TableRead S) → rest ≡ row ∷ more
      → whole ≡ after_rows step made (map line_row rest) → Makes (Err error) (step made row.1) next → TellsTable view (Err (line_error row.0 error)) whole
  unfolding after_rows
  taken_told view made next rest more row error whole is so_far makes =
      told view error row.0 (step made row.1) next whole makes
      (λ fault e. so_far ∙ (ap (λ (rows : List LinedRow). after_rows step made (map line_row rows)) is
      ∙ ap (λ read. and_then (at_line row.0 read) (λ next. after_rows step next (map line_row more))) e))

  pub taken_all : (made : S) (rest : List LinedRow) → rest ≡ [] → after_rows step made (map line_row rest) ≡ Ok made
  unfolding after_rows
  taken_all made rest is = ap (λ (rows : List LinedRow). after_rows step made (map line_row rows)) is

-- what a `?` hands on
pub handed_on : {S : Type 0} (r : Result (Unit {0}) RowError) (error : RowError) (read : RowRead S) (made : S) → IsErrAnd r (λ e. e ≡ error) → Makes (Err error) read made → Makes r read made
handed_on r error read made is h =
    let p = err_from_is_err_and r is in subst (λ r. Makes r read made) (sym (p.1 ∙ ap Err p.2)) h
