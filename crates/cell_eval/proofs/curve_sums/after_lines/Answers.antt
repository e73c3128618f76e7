use Rattle.std.proofs.Common.{sym, ap, ◌∙◌, subst, ◌∷◌, []}
use Rattle.std.specs.Prelude.{Some, Err}
use Rattle.net_cells.specs.Meanings.{curve}
use Rattle.plain_operators.specs.pointwise.Straight.{straight_curve}
use Rattle.cell_eval.specs.Partial.{Adds, IsSumOf}
use Rattle.cell_eval.proofs.SumSteps.{adds_line, adds_unmade, made_summed}
use Rattle.cell_eval.proofs.curve_sums.after_lines.Goals as goal

pub returns-in-Some : goal.returns-in-Some
returns-in-Some g c = λ cells h.
    let at = g.T.Table.at c.args.inputs.now.table.now in
    let f = straight_curve c.args.so_far.now in
    adds_line at cells f c.deref.result.now c.in-Some.total c.args.cell c.args.steps.now _ (made_summed at cells f h)
    (c.curve_at.ensures ∙ ap (λ f. Some (curve f)) (sym c.deref.ensures)) c.in-Some.ensures c.tick.ensures

pub returns-in-Ok : goal.returns-in-Ok
returns-in-Ok g c = λ cells h.
    let at = g.T.Table.at c.args.inputs.now.table.now in
    subst (Adds at cells (c.args.cell ∷ []) c.args.steps.now c.with_cell.new.steps) (sym c.as_whole.ensures)
    (c.with_cell.ensures cells (made_summed at cells c.in-Ok.made (subst (IsSumOf at cells) (sym c.in-Ok.ensures) h)))

pub returns-in-Err : goal.returns-in-Err
returns-in-Err g c = λ cells h.
    let at = g.T.Table.at c.args.inputs.now.table.now in
    subst (λ e. Adds at cells (c.args.cell ∷ []) c.args.steps.now c.args.steps.now (Err e)) (sym c.in-Err.ensures)
    (adds_unmade at cells (straight_curve c.args.so_far.now) c.args.cell c.args.steps.now h)
