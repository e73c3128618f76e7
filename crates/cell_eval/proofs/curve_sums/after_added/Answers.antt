use Rattle.std.proofs.Common.{sym, subst, ◌∷◌, []}
use Rattle.cell_eval.specs.Partial.{Adds, IsSumOf, added_curve}
use Rattle.cell_eval.proofs.SumSteps.{made_summed}
use Rattle.cell_eval.proofs.curve_sums.after_added.Goals as goal

pub returns-in-Lines : goal.returns-in-Lines
returns-in-Lines g c = λ cells h.
    let at = g.T.Table.at c.args.inputs.now.table.now in
    c.after_lines.ensures cells (subst (λ a. IsSumOf at cells (added_curve a)) c.in-Lines.is h)

pub returns-in-Whole : goal.returns-in-Whole
returns-in-Whole g c = λ cells h.
    let at = g.T.Table.at c.args.inputs.now.table.now in
    subst (Adds at cells (c.args.cell ∷ []) c.args.steps.now c.with_cell.new.steps) (sym c.as_whole.ensures)
    (c.with_cell.ensures cells (made_summed at cells c.in-Whole.curve (subst (λ a. IsSumOf at cells (added_curve a)) c.in-Whole.is h)))
