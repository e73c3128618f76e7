use Rattle.std.proofs.Common.{sym, ap, ◌∙◌}
use Rattle.std.specs.Prelude.{Some}
use Rattle.upp_limits.specs.declared.op_kind.OpKind.TheVariants.{Min}
use Rattle.curve_call.specs.Calls.{Applies}
use Rattle.curve_call.proofs.Applied.{applied_seen}
use Rattle.net_cells.specs.Meanings.{curve}
use Rattle.net_cells.specs.Answers.{MakesCurve}
use Rattle.net_cells.specs.cell_table.Values.{answer_of, meaning_of}
use Rattle.cell_numbers.proofs.OnCells.{on_cell}
use Rattle.cell_eval.proofs.Handing.{applies_out, shared_makes}
use Rattle.cell_eval.proofs.inputs.Inputs.lesser.Goals as goal

pub returns-clause-answer : goal.returns-clause-answer
returns-clause-answer g c =
    let at = g.T.Table.at c.args.self.now.table.now in
    let f = c.deref.result.now in
    let h = c.deref-2.result.now in
    let r = answer_of meaning_of c.shared.result in
    let made = applied_seen Min f h c.min.result c.intact-made.result c.intact-made.ensures.same c.min.ensures.value c.min.ensures.limits
    c.intact-made.ensures.kept in
    on_cell at c.args.first f _ r (c.curve_at.ensures ∙ ap (λ f. Some (curve f)) (sym c.deref.ensures))
    (on_cell at c.args.second h (λ k. MakesCurve (Applies Min f k)) r (c.curve_at-2.ensures ∙ ap (λ f. Some (curve f)) (sym c.deref-2.ensures))
    (shared_makes (Applies Min f h) c.intact-made.result r (applies_out Min f h) made c.shared.ensures))
