use Rattle.std.proofs.Common.{sym, ap, ◌∙◌, arith}
use Rattle.csv.specs.Records.{fields_of}
use Rattle.csv_rows.specs.Rows.{is_empty}
use Rattle.csv_rows.proofs.Cells.{blank_more, not_blank}
use Rattle.csv_rows.proofs.rows.is_blank.Goals as goal

pub loop-place-preserved : goal.loop-place-preserved
loop-place-preserved c =
    let len = c.len-place-end.ensures in
    let below = c.loop-place-test.true in
    c.loop-place.invariant
    ∙ blank_more (fields_of c.args.row.now) c.loop-place.place (omega (arith, len, below)) (ap is_empty (sym c.cell.ensures) ∙ (sym c.is_empty.ensures ∙ c.if-not-is_empty.false))

pub returns-then-not-is_empty : goal.returns-then-not-is_empty
returns-then-not-is_empty c =
    let len = c.len-place-end.ensures in
    let below = c.loop-place-test.true in
    sym (c.loop-place.invariant
    ∙ not_blank (fields_of c.args.row.now) c.loop-place.place (omega (arith, len, below)) (ap is_empty (sym c.cell.ensures) ∙ (sym c.is_empty.ensures ∙ c.if-not-is_empty.true)))
