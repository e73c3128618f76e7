use Rattle.std.proofs.Common.{◌≡◌, ◌≢◌, ◌≤◌, ◌+◌, ◌⊎◌, ℕ, List, length, map, inl, inr, ⊎_elim, sym, subst, ap, ◌∙◌, arith}
use Rattle.std.proofs.lemmas.List.{length-map}
use Rattle.std.proofs.lemmas.Result.{IfErr-weaker, IfOk-weaker}
use Rattle.csv.specs.Records.{fields_of}
use Rattle.input_texts.specs.table_text.Rows.{Row, rows_of}
use Rattle.input_texts.proofs.table_text.RowPlaces.{place_of}
use Rattle.run_check.specs.run_table.Runs.{IsRunOf, IsFirstFault, out_of_memory}
use Rattle.run_check.specs.run_table.Rounds.{SaysEnd, IsWrongNext, IsBehindEnd}
use Rattle.run_check.proofs.run_table.RunSteps.{so_far_more, so_far_run, so_far_fault, so_far_behind, so_far_no_end, memory_or, when_none, when_some}
use Rattle.run_check.proofs.run_table.runs.read_run.Goals as goal

pub loop-before-preserved : goal.loop-before-preserved
loop-before-preserved c =
    let items = c.deref-row-items.result.now in
    let rows : List Row = map fields_of items in
    let k = c.loop-before.before in
    let row = c.row-item.result in
    let it = place_of fields_of items k row c.loop-before-test.true c.row-item.is in
    record {
      rows = c.loop-before.invariant.rows;
      so_far = so_far_more c.args.net.now rows k (fields_of row) c.loop-before.packets c.loop-before.steps.items c.add_row.new.packets c.add_row.new.steps.items it.within it.at
          c.loop-before.invariant.so_far (when_none _ c.in-Ok-None.field-0 c.in-Ok-None.field-0-is c.in-Ok-None.ensures.adds);
    }

pub returns-in-Err-add_row-clause-fault : goal.returns-in-Err-add_row-clause-fault
returns-in-Err-add_row-clause-fault c =
    let f = c.fault_at-in-Err-add_row in
    let net = c.args.net.now in
    let items = c.deref-row-items.result.now in
    let rows : List Row = map fields_of items in
    let k = c.loop-before.before in
    let row = c.row-item.result in
    let it = place_of fields_of items k row c.loop-before-test.true c.row-item.is in
    ⊎_elim
    (λ memory. inl (f.ensures.memory memory))
    (λ other. ⊎_elim
    (λ memory. inl (f.ensures.memory memory))
    (λ wrong. inr (so_far_fault net c.args.text.now rows k (fields_of row) c.loop-before.invariant.rows it.within it.at c.loop-before.packets c.loop-before.steps.items f.result.kind f.result.row
    c.loop-before.invariant.so_far (subst (λ kind. IsWrongNext net k (fields_of row) kind) (sym (f.ensures.other other).0) wrong) (f.ensures.other other).1))
    c.in-Err-add_row.ensures.wrong)
    (memory_or c.in-Err-add_row.kind)

pub returns-in-Ok-Some-clause-ok : goal.returns-in-Ok-Some-clause-ok
returns-in-Ok-Some-clause-ok c =
    let net = c.args.net.now in
    let steps2 = c.add_row.new.steps.items in
    let end = c.in-Ok-Some.end in
    let items = c.deref-row-items.result.now in
    let rows : List Row = map fields_of items in
    let k = c.loop-before.before in
    let row = c.row-item.result in
    let it = place_of fields_of items k row c.loop-before-test.true c.row-item.is in
    let size : c.len.result ≡ length rows = let n = length-map items fields_of in let l = c.len.ensures in let d = c.deref-row-items.ensures.len in omega (arith, n, l, d) in
    IfOk-weaker c.ended.result (λ run. (run.steps ≡ steps2) × (run.end ≡ end) × (k + 1 ≡ c.len.result)) (IsRunOf net (rows_of c.args.text.now))
    (λ run h. so_far_run net c.args.text.now rows k (fields_of row) c.loop-before.packets c.loop-before.steps.items steps2 run c.loop-before.invariant.rows it.within it.at c.loop-before.invariant.so_far
    (subst (λ e. SaysEnd k (fields_of row) c.loop-before.steps.items steps2 e) (sym h.1) (when_some _ _ c.in-Ok-Some.field-0 c.in-Ok-Some.end c.in-Ok-Some.field-0-is c.in-Ok-Some.ensures.adds)) h.0 (h.2 ∙ size))
    c.ended.ensures.run

pub returns-in-Ok-Some-clause-fault : goal.returns-in-Ok-Some-clause-fault
returns-in-Ok-Some-clause-fault c =
    let net = c.args.net.now in
    let text = c.args.text.now in
    let items = c.deref-row-items.result.now in
    let rows : List Row = map fields_of items in
    let k = c.loop-before.before in
    let row = c.row-item.result in
    let it = place_of fields_of items k row c.loop-before-test.true c.row-item.is in
    let steps2 = c.add_row.new.steps.items in
    let size : c.len.result ≡ length rows = let n = length-map items fields_of in let l = c.len.ensures in let d = c.deref-row-items.ensures.len in omega (arith, n, l, d) in
    IfErr-weaker c.ended.result (λ e. (e.row ≡ k + 1 + 1) × IsBehindEnd (k + 1) e.kind × (k + 1 ≢ c.len.result)) (λ e. (e ≡ out_of_memory) ⊎ IsFirstFault net text e.kind e.row)
    (λ e h. inr (so_far_behind net text rows k (fields_of row) c.loop-before.packets c.loop-before.steps.items steps2 c.in-Ok-Some.end e.kind e.row c.loop-before.invariant.rows it.within it.at
    c.loop-before.invariant.so_far (when_some _ _ c.in-Ok-Some.field-0 c.in-Ok-Some.end c.in-Ok-Some.field-0-is c.in-Ok-Some.ensures.adds) (λ same. h.2 (same ∙ sym size)) h.1 h.0))
    c.ended.ensures.behind

pub returns-clause-fault : goal.returns-clause-fault
returns-clause-fault c =
    let items = c.deref-row-items.result.now in
    let rows : List Row = map fields_of items in
    let past = c.loop-before-test.false in
    let n = length-map items fields_of in
    let over : length rows ≤ c.loop-before.before = omega (arith, n, past) in
    let size : c.len-2.result ≡ length rows = let l = c.len-2.ensures in let d = c.deref-row-items.ensures.len in omega (arith, n, l, d) in
    let f = c.fault_at-2.ensures.other (λ e. let bad : ⊥ = cc in bad) in
    inr (so_far_no_end c.args.net.now c.args.text.now rows c.loop-before.before c.loop-before.packets c.loop-before.steps.items c.fault_at-2.result.kind c.fault_at-2.result.row
    c.loop-before.invariant.rows over c.loop-before.invariant.so_far f.0 (f.1 ∙ ap (λ (m : ℕ). m + 1) size))
