use Rattle.std.proofs.Common.{◌≤◌, length, map, sym, subst, arith}
use Rattle.std.proofs.lemmas.List.{length-map}
use Rattle.csv.specs.Records.{fields_of}
use Rattle.input_texts.specs.table_text.Rows.{rows_of}
use Rattle.input_texts.specs.table_text.Traces.{IsTraceOf, IsWrong}
use Rattle.input_texts.proofs.table_text.RowPlaces.{place_of, told_by}
use Rattle.input_texts.proofs.table_text.TraceSteps.{so_far_more, so_far_trace, so_far_all, so_far_fault, memory_or}
use Rattle.input_texts.proofs.table_text.traces.read_trace.Goals as goal

pub returns-in-Err-add_row-clause-fault : goal.returns-in-Err-add_row-clause-fault
returns-in-Err-add_row-clause-fault c =
    let f = c.fault_at-in-Err-add_row in
    let net = c.args.net.now in
    let row = fields_of c.row-item.result in
    let it = place_of fields_of c.deref-row-items.result.now c.loop-before.before c.row-item.result c.loop-before-test.true c.row-item.is in
    told_by (memory_or c.in-Err-add_row.kind) c.in-Err-add_row.ensures.wrong f.ensures.memory f.ensures.other
    (λ other wrong. so_far_fault net c.args.text.now (map fields_of c.deref-row-items.result.now) c.loop-before.before row
    c.loop-before.packets.items c.loop-before.stalls.items f.result.kind f.result.row c.loop-before.invariant.rows it.within it.at
    c.loop-before.invariant.so_far (subst (λ kind. IsWrong net c.loop-before.before c.loop-before.packets.items row kind) (sym other.0) wrong) other.1)

pub loop-before-preserved : goal.loop-before-preserved
loop-before-preserved c =
    let it = place_of fields_of c.deref-row-items.result.now c.loop-before.before c.row-item.result c.loop-before-test.true c.row-item.is in
    record {
      rows = c.loop-before.invariant.rows;
      so_far = so_far_more c.args.net.now (map fields_of c.deref-row-items.result.now) c.loop-before.before (fields_of c.row-item.result) c.loop-before.packets.items c.loop-before.stalls.items c.add_row.new.packets.items c.add_row.new.stalls.items it.within it.at
          c.loop-before.invariant.so_far c.in-Ok-add_row.ensures.adds;
    }

pub new-requires : goal.new-requires
new-requires c =
    so_far_trace c.args.net.now (map fields_of c.deref-row-items.result.now) c.loop-before.before c.loop-before.packets.items c.loop-before.stalls.items c.loop-before.invariant.so_far

pub returns-clause-ok : goal.returns-clause-ok
returns-clause-ok c =
    let net = c.args.net.now in
    let items = c.deref-row-items.result.now in
    let past = c.loop-before-test.false in
    let n = length-map items fields_of in
    let over : length (map fields_of items) ≤ c.loop-before.before = omega (arith, n, past) in
    let all = so_far_all net c.args.text.now (map fields_of items) c.loop-before.before c.loop-before.packets.items c.loop-before.stalls.items c.loop-before.invariant.rows over c.loop-before.invariant.so_far in
    subst (λ t. IsTraceOf net (rows_of c.args.text.now) t) (sym c.new.ensures) all
