use Rattle.std.proofs.Common.{get_or, ap, sym, ◌∙◌, arith}
use Rattle.std.specs.Prelude.{None}
use Rattle.net_cells.proofs.cell_table.Rows.{row_entry, no_row}
use Rattle.net_cells.proofs.cell_table.analysis.at_place.Goals as goal

pub returns-then-row-rows : goal.returns-then-row-rows
returns-then-row-rows g c =
    c.in_row.ensures ∙ ap (λ xs. get_or xs c.args.place None) c.deref.ensures.value
    ∙ sym (row_entry c.args.rows.now c.args.row c.args.place c.index-rows-row.result c.if-row-rows.true c.index-rows-row.is)

pub returns-else-row-rows : goal.returns-else-row-rows
returns-else-row-rows g c =
    let past = c.if-row-rows.false in
    sym (no_row c.args.rows.now c.args.row c.args.place (omega (arith, past)))
