use Rattle.std.proofs.Common.{map, Err, refl, sym, subst, ◌∙◌}
use Rattle.csv_rows.specs.Coming.{rows_of}
use Rattle.csv_rows.specs.Rows.{lined_of}
use Rattle.document_tables.specs.Tables.{TellsTable, after_rows, line_row}
use Rattle.document_tables.specs.Links.{links_view, no_links, with_row}
use Rattle.document_tables.specs.Ports.{ports_view}
use Rattle.document_tables.proofs.Steps.{taken_all, taken_more, taken_told}
use Rattle.document_tables.proofs.links.links_under.Goals as goal

pub loop-row-init : goal.loop-row-init
loop-row-init c =
    rw c.no_links-table.ensures.value (record { stands = c.requires.stands; value = refl; kept = c.no_links-table.ensures.kept })

pub loop-row-preserved : goal.loop-row-preserved
loop-row-preserved c =
    let r = rw c.if-branch.true at c.in_ok-next_row.ensures in
    record {
      stands = r.0;
      value = c.loop-row.invariant.value
          ∙ taken_more (with_row (ports_view c.args.ports.now) c.args.overhead c.args.head.now) (links_view c.loop-row.table) (links_view c.add_row.new.table)
          (rows_of c.loop-row.rows) (rows_of c.next_row.new.self) (lined_of c.next_row.new.row) r.1 c.in-Ok.ensures.value;
      kept = c.in-Ok.ensures.kept;
    }

pub returns-in-Err-clause-value : goal.returns-in-Err-clause-value
returns-in-Err-clause-value c =
    let r = rw c.if-branch.true at c.in_ok-next_row.ensures in
    let step = with_row (ports_view c.args.ports.now) c.args.overhead c.args.head.now in
    let whole = after_rows step no_links (map line_row (rows_of c.args.rows.now)) in
    subst (λ e. TellsTable links_view (Err e) whole) (sym c.line_error.ensures)
    (taken_told step links_view (links_view c.loop-row.table) (links_view c.add_row.new.table) (rows_of c.loop-row.rows) (rows_of c.next_row.new.self) (lined_of c.next_row.new.row)
    c.in-Err.error whole r.1 c.loop-row.invariant.value c.in-Err.ensures.value)

pub returns-clause-value : goal.returns-clause-value
returns-clause-value c =
    c.loop-row.invariant.value
    ∙ taken_all (with_row (ports_view c.args.ports.now) c.args.overhead c.args.head.now) (links_view c.loop-row.table) (rows_of c.loop-row.rows)
    (rw c.if-branch.false at c.in_ok-next_row.ensures)
