use Rattle.std.proofs.Common.{◌≡◌, nat_le, true, length, Err, sym, ap, subst, ◌∙◌, arith}
use Rattle.std.proofs.lemmas.List.{length-map}
use Rattle.csv.specs.Records.{fields_of}
use Rattle.document_rows.specs.LinkRows.{link_view}
use Rattle.document_rows.specs.declared.fault.RowError.TheVariants.{Cell}
use Rattle.document_tables.specs.Links.{branch_view, links_view, with_row, has_room, most_branches}
use Rattle.document_tables.specs.Ports.{ports_view}
use Rattle.document_tables.specs.Tables.{Makes}
use Rattle.document_tables.proofs.LinkSteps.{too_many, no_name, no_room, no_text, to_text, is_full, few_rows}
use Rattle.document_tables.proofs.Steps.{handed_on}
use Rattle.document_tables.proofs.RowRanges.{link_says}
use Rattle.document_tables.proofs.links.add_row.Goals as goal

pub returns-then-len-ge-MOST_BRANCHES-clause-value : goal.returns-then-len-ge-MOST_BRANCHES-clause-value
returns-then-len-ge-MOST_BRANCHES-clause-value c =
    let ports = ports_view c.args.ports.now in
    let before = links_view c.args.table.now in
    let row = fields_of c.args.row.now in
    let n = length-map c.args.table.now.branches.items (branch_view c.args.table.now.passed.items) in
    let full : nat_le most_branches (length before.branches) ≡ true = is_full most_branches (length before.branches) (omega (arith, n, c.len.ensures, c.if-len-ge-MOST_BRANCHES.true)) in
    subst (λ e. Makes (Err e) (with_row ports c.args.overhead c.args.head.now before row) before) (sym c.wrong_name.ensures) (too_many ports c.args.overhead c.args.head.now before row full)

pub returns-in_err-name-clause-value : goal.returns-in_err-name-clause-value
returns-in_err-name-clause-value c =
    let ports = ports_view c.args.ports.now in
    let before = links_view c.args.table.now in
    let row = fields_of c.args.row.now in
    let few = few_rows c.args.table.now (omega (arith, c.len.ensures, c.if-len-ge-MOST_BRANCHES.false)) in
    handed_on c.from_residual.result (Cell c.in_err-name.field-0.0) (with_row ports c.args.overhead c.args.head.now before row) before c.from_residual.ensures.1
    (no_name ports c.args.overhead c.args.head.now before row few c.in_err-name.field-0.0 (sym c.in_err-name.ensures))

pub returns-in_err-number-clause-value : goal.returns-in_err-number-clause-value
returns-in_err-number-clause-value c =
    let ports = ports_view c.args.ports.now in
    let before = links_view c.args.table.now in
    let row = fields_of c.args.row.now in
    let few = few_rows c.args.table.now (omega (arith, c.len.ensures, c.if-len-ge-MOST_BRANCHES.false)) in
    handed_on c.from_residual-in_err-number.result (Cell c.in_err-number.field-0.0) (with_row ports c.args.overhead c.args.head.now before row) before c.from_residual-in_err-number.ensures.1
    (no_room ports c.args.overhead c.args.head.now before row few c.in_ok-name.name.now (sym c.in_ok-name.ensures) c.in_err-number.field-0.0
    (ap (has_room before) (sym c.number_near.ensures.value) ∙ sym c.in_err-number.ensures.value))

pub returns-in_err-row-clause-value : goal.returns-in_err-row-clause-value
returns-in_err-row-clause-value c =
    let ports = ports_view c.args.ports.now in
    let before = links_view c.args.table.now in
    let row = fields_of c.args.row.now in
    let few = few_rows c.args.table.now (omega (arith, c.len.ensures, c.if-len-ge-MOST_BRANCHES.false)) in
    handed_on c.from_residual-in_err-row.result c.in_err-row.field-0.0 (with_row ports c.args.overhead c.args.head.now before row) before c.from_residual-in_err-row.ensures.1
    (no_text ports c.args.overhead c.args.head.now before row few c.in_ok-name.name.now (sym c.in_ok-name.ensures) c.in_ok-number.number
    (ap (has_room before) (sym c.number_near.ensures.value) ∙ sym c.in_ok-number.ensures.value) link_view c.in_err-row.field-0.0 before c.in_err-row.ensures)

pub put_row-requires-clause-row : goal.put_row-requires-clause-row
put_row-requires-clause-row c = link_says c.args.head.now (fields_of c.args.row.now) (link_view c.in_ok-row.row) c.in_ok-row.ensures

pub returns-clause-value : goal.returns-clause-value
returns-clause-value c =
    let ports = ports_view c.args.ports.now in
    let before = links_view c.args.table.now in
    let row = fields_of c.args.row.now in
    let few = few_rows c.args.table.now (omega (arith, c.len.ensures, c.if-len-ge-MOST_BRANCHES.false)) in
    let same = to_text ports c.args.overhead c.args.head.now before row few c.in_ok-name.name.now (sym c.in_ok-name.ensures) c.in_ok-number.number
    (ap (has_room before) (sym c.number_near.ensures.value) ∙ sym c.in_ok-number.ensures.value) (link_view c.in_ok-row.row) c.in_ok-row.ensures
    in
    subst (λ read. Makes c.put_row.result read (links_view c.put_row.new.table)) (sym same) c.put_row.ensures.value
