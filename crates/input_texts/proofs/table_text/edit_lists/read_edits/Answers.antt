use Rattle.std.proofs.Common.{◌≤◌, length, map, sym, subst, arith}
use Rattle.std.proofs.lemmas.List.{length-map}
use Rattle.csv.specs.Records.{fields_of}
use Rattle.input_texts.specs.table_text.EditRows.{edit_view}
use Rattle.input_texts.specs.table_text.EditLists.{IsEditWrong}
use Rattle.input_texts.proofs.table_text.RowPlaces.{place_of, told_by}
use Rattle.input_texts.proofs.table_text.TraceSteps.{memory_or}
use Rattle.input_texts.proofs.table_text.EditSteps.{edits_more, edits_all, edits_fault}
use Rattle.input_texts.proofs.table_text.edit_lists.read_edits.Goals as goal

pub returns-in-Err-add_edit-clause-fault : goal.returns-in-Err-add_edit-clause-fault
returns-in-Err-add_edit-clause-fault c =
    let f = c.fault_at-in-Err-add_edit in
    let row = fields_of c.row-item.result in
    let it = place_of fields_of c.deref-row-items.result.now c.loop-before.before c.row-item.result c.loop-before-test.true c.row-item.is in
    told_by (memory_or c.in-Err-add_edit.kind) c.in-Err-add_edit.ensures.wrong f.ensures.memory f.ensures.other
    (λ other wrong. edits_fault c.args.text.now (map fields_of c.deref-row-items.result.now) c.loop-before.before row (map edit_view c.loop-before.edits.items)
    f.result.kind f.result.row c.loop-before.invariant.rows it.within it.at c.loop-before.invariant.edits
    (subst (λ kind. IsEditWrong c.loop-before.before row kind) (sym other.0) wrong) other.1)

pub loop-before-preserved : goal.loop-before-preserved
loop-before-preserved c =
    let it = place_of fields_of c.deref-row-items.result.now c.loop-before.before c.row-item.result c.loop-before-test.true c.row-item.is in
    record {
      rows = c.loop-before.invariant.rows;
      edits = edits_more (map fields_of c.deref-row-items.result.now) c.loop-before.before (fields_of c.row-item.result) (map edit_view c.loop-before.edits.items) (map edit_view c.add_edit.new.edits.items)
          it.within it.at c.loop-before.invariant.edits c.in-Ok-add_edit.ensures.adds;
    }

pub returns-clause-ok : goal.returns-clause-ok
returns-clause-ok c =
    let items = c.deref-row-items.result.now in
    let past = c.loop-before-test.false in
    let n = length-map items fields_of in
    let over : length (map fields_of items) ≤ c.loop-before.before = omega (arith, n, past) in
    edits_all c.args.text.now (map fields_of items) c.loop-before.before (map edit_view c.loop-before.edits.items) c.loop-before.invariant.rows over c.loop-before.invariant.edits
