use Rattle.std.proofs.Common.{◌≡◌, ◌≢◌, ℕ, ◌∙◌, arith, inr, refl}
use Rattle.net_cells.proofs.cell_table.Rows.{new_row, row_put}
use Rattle.net_cells.proofs.cell_table.analysis.put_in.Goals as goal

pub returns-in-Ok-clause-put : goal.returns-in-Ok-clause-put
returns-in-Ok-clause-put g c =
    let room = c.in_ok-grow_rows.ensures.room in
    new_row c.grow_rows.new.rows.items c.args.row c.args.place c.put_in_row.new.row (omega (arith, room)) ∙ c.in-Ok.ensures.put

pub returns-in-Ok-clause-others : goal.returns-in-Ok-clause-others
returns-in-Ok-clause-others g c = λ i k n.
    let room = c.in_ok-grow_rows.ensures.room in
    row_put c.grow_rows.new.rows.items c.args.row c.index_mut.result.now c.put_in_row.new.row (λ (j : ℕ). j ≢ c.args.place)
    (omega (arith, room)) c.index_mut.ensures.value c.put_in_row.ensures.others i k n
    ∙ c.grow_rows.ensures.same i k

pub returns-in-Err-clause-others : goal.returns-in-Err-clause-others
returns-in-Err-clause-others g c = λ i k n.
    let room = c.in_ok-grow_rows.ensures.room in
    row_put c.grow_rows.new.rows.items c.args.row c.index_mut.result.now c.put_in_row.new.row (λ (j : ℕ). j ≢ c.args.place)
    (omega (arith, room)) c.index_mut.ensures.value c.put_in_row.ensures.others i k n
    ∙ c.grow_rows.ensures.same i k

pub returns-in-Err-clause-kept : goal.returns-in-Err-clause-kept
returns-in-Err-clause-kept g c = λ i k.
    let room = c.in_ok-grow_rows.ensures.room in
    row_put c.grow_rows.new.rows.items c.args.row c.index_mut.result.now c.put_in_row.new.row (λ (j : ℕ). j ≡ j)
    (omega (arith, room)) c.index_mut.ensures.value (λ j u. c.in-Err.ensures.kept j) i k (inr refl)
    ∙ c.grow_rows.ensures.same i k
