use Rattle.std.proofs.Common.{sym, ap, ◌∙◌}
use Rattle.std.specs.Prelude.{Some}
use Rattle.upp_limits.specs.declared.op_kind.OpKind.TheVariants.{Shift}
use Rattle.curve_call.specs.Calls.{AppliesTo}
use Rattle.curve_call.proofs.Applied.{applied_seen}
use Rattle.net_cells.specs.Meanings.{curve}
use Rattle.net_cells.specs.Answers.{MakesCurve}
use Rattle.net_cells.specs.cell_table.Values.{answer_of, meaning_of}
use Rattle.cell_numbers.proofs.OnCells.{on_cell}
use Rattle.cell_eval.proofs.Handing.{applies_out, shared_makes, on_number_cell}
use Rattle.cell_eval.proofs.inputs.Inputs.later.Goals as goal

pub returns-clause-answer : goal.returns-clause-answer
returns-clause-answer g c =
    let at = g.T.Table.at c.args.self.now.table.now in
    let f = c.deref.result.now in
    let x = c.number_at-by.result in
    let r = answer_of meaning_of c.shared.result in
    let made = applied_seen (Shift x) f f c.shift.result c.intact-made.result c.intact-made.ensures.same c.shift.ensures.value c.shift.ensures.limits
    c.intact-made.ensures.kept in
    on_cell at c.args.from f _ r (c.curve_at.ensures ∙ ap (λ f. Some (curve f)) (sym c.deref.ensures))
    (on_number_cell at c.args.by x (λ y. MakesCurve (AppliesTo (Shift y) f)) r c.number_at-by.ensures
    (shared_makes (AppliesTo (Shift x) f) c.intact-made.result r (applies_out (Shift x) f f) made c.shared.ensures))
