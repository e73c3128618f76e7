use Rattle.std.proofs.Common.{List, sym, ap, subst, suc, length, ◌∙◌, arith}
use Rattle.csv.specs.Reading.{strip_bom}
use Rattle.csv_rows.specs.Rows.{AreLinedRowsOf, LinedRow, line_ends, used}
use Rattle.csv_rows.specs.Coming.{rows_from}
use Rattle.csv_rows.proofs.Coming.{all_is, rows_are}
use Rattle.csv_rows.proofs.reading.table_rows.Goals as goal

pub returns-clause-rows : goal.returns-clause-rows
returns-clause-rows c =
    let text = strip_bom c.args.text.now in
    let line = c.lines_of.ensures.line in
    let rest = ap line_ends c.lines_of.ensures.rest in
    let all = all_is record { reader = c.from_reader-reader.result; lines = c.lines_of.result } (line_ends text) text
    (omega (arith, line, rest)) c.from_reader-reader.ensures.source
    ∙ ap (λ s. rows_from (line_ends text) (suc (length text)) s text) c.from_reader-reader.ensures.state in
    let P : List LinedRow → Type 0 = λ rows. AreLinedRowsOf c.args.text.now (used rows) in
    subst P (sym all) (rows_are c.args.text.now)
