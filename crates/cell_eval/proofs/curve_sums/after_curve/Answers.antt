use Rattle.std.proofs.Common.{sym, ap, ◌∙◌, subst, ◌∷◌, []}
use Rattle.std.specs.Prelude.{Some}
use Rattle.net_cells.specs.Meanings.{curve}
use Rattle.cell_eval.specs.Partial.{Adds}
use Rattle.cell_eval.proofs.SumSteps.{adds_line}
use Rattle.cell_eval.proofs.curve_sums.after_curve.Goals as goal

pub returns-in-Some : goal.returns-in-Some
returns-in-Some g c = λ cells h.
    adds_line (g.T.Table.at c.args.inputs.now.table.now) cells c.args.so_far.now c.deref.result.now c.in-Some.total c.args.cell c.args.steps.now _ h
    (c.curve_at.ensures ∙ ap (λ f. Some (curve f)) (sym c.deref.ensures)) c.in-Some.ensures c.tick.ensures

pub returns-in-None : goal.returns-in-None
returns-in-None g c = λ cells h.
    subst (Adds (g.T.Table.at c.args.inputs.now.table.now) cells (c.args.cell ∷ []) c.args.steps.now c.with_cell.new.steps) (sym c.as_whole.ensures)
    (c.with_cell.ensures cells h)
