use Rattle.std.proofs.Common.{sym, ap, ◌∙◌}
use Rattle.std.specs.Prelude.{Some}
use Rattle.upp_limits.specs.declared.op_kind.OpKind.TheVariants.{Sum}
use Rattle.curve_call.proofs.Applied.{applied_seen}
use Rattle.net_cells.specs.Meanings.{curve}
use Rattle.cell_eval.proofs.SumSteps.{adds_sum}
use Rattle.cell_eval.proofs.curve_sums.with_cell.Goals as goal

pub returns : goal.returns
returns g c = λ cells h.
    let f = c.args.so_far.now in
    let k = c.deref.result.now in
    adds_sum (g.T.Table.at c.args.inputs.now.table.now) cells f k c.args.cell c.args.steps.now _ c.intact.result h
    (c.curve_at.ensures ∙ ap (λ f. Some (curve f)) (sym c.deref.ensures))
    (applied_seen Sum f k c.sum.result c.intact.result c.intact.ensures.same c.sum.ensures.value c.sum.ensures.limits c.intact.ensures.kept)
    c.sum.ensures.count
