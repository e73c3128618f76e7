use Rattle.std.proofs.Common.{sym, ap, ◌∙◌, subst, ◌∷◌, []}
use Rattle.std.specs.Prelude.{Some}
use Rattle.net_cells.specs.Meanings.{curve}
use Rattle.cell_eval.specs.Partial.{IsPartial, Adds, partial_of}
use Rattle.cell_eval.proofs.SumSteps.{adds_first, one_summed}
use Rattle.cell_eval.proofs.curve_sums.add.Goals as goal

pub returns-in-Empty-clause-sum : goal.returns-in-Empty-clause-sum
returns-in-Empty-clause-sum g c = λ cells h.
    let at = g.T.Table.at c.args.inputs.now.table.now in
    adds_first at cells c.args.cell c.args.steps.now (subst (λ p. IsPartial at cells (partial_of p)) c.in-Empty.is h)

pub returns-in-Single-clause-sum : goal.returns-in-Single-clause-sum
returns-in-Single-clause-sum g c = λ cells h.
    let at = g.T.Table.at c.args.inputs.now.table.now in
    subst (Adds at cells (c.args.cell ∷ []) c.args.steps.now c.after_curve-made.new.steps) (sym c.replace.ensures.made)
    (c.after_curve-made.ensures cells
    (one_summed at cells c.in-Single.first c.deref.result.now (subst (λ p. IsPartial at cells (partial_of p)) c.in-Single.is h)
    (c.curve_at.ensures ∙ ap (λ f. Some (curve f)) (sym c.deref.ensures))))

pub returns-in-More-clause-sum : goal.returns-in-More-clause-sum
returns-in-More-clause-sum g c = λ cells h.
    let at = g.T.Table.at c.args.inputs.now.table.now in
    subst (Adds at cells (c.args.cell ∷ []) c.args.steps.now c.after_added-made.new.steps) (sym c.replace-in-More.ensures.made)
    (c.after_added-made.ensures cells (subst (λ p. IsPartial at cells (partial_of p)) c.in-More.is h))
