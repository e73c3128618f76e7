use Rattle.std.proofs.Common.{map, Err, sym, subst, ◌∙◌, arith}
use Rattle.document_tables.specs.Tables.{TellsTable, after_rows, row_view}
use Rattle.document_tables.specs.Ports.{ports_view, no_ports, with_port}
use Rattle.document_tables.proofs.Steps.{row_more, row_told, all_read}
use Rattle.document_tables.proofs.ports.ports_under.Goals as goal

pub loop-row-preserved : goal.loop-row-preserved
loop-row-preserved c =
    c.loop-row.invariant
    ∙ row_more (with_port c.args.head.now) (ports_view c.loop-row.table) (ports_view c.add_port.new.table) c.args.rows.now c.loop-row.row-index c.row-item.result c.loop-row-test.true c.row-item.is c.in-Ok.ensures

pub returns-in-Err : goal.returns-in-Err
returns-in-Err c =
    let step = with_port c.args.head.now in
    let whole = after_rows step no_ports (map row_view c.args.rows.now) in
    subst (λ e. TellsTable ports_view (Err e) whole) (sym c.line_error.ensures)
    (row_told step ports_view (ports_view c.loop-row.table) (ports_view c.add_port.new.table) c.args.rows.now c.loop-row.row-index c.row-item.result c.in-Err.error whole c.loop-row-test.true
    c.row-item.is c.loop-row.invariant c.in-Err.ensures)

pub returns : goal.returns
returns c = c.loop-row.invariant ∙ all_read (with_port c.args.head.now) (ports_view c.loop-row.table) c.args.rows.now c.loop-row.row-index (omega (arith, c.loop-row-test.false))
