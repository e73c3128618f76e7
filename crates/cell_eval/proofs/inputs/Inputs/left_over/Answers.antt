use Rattle.std.proofs.Common.{sym, ap, ◌∙◌}
use Rattle.std.specs.Prelude.{Some}
use Rattle.upp_limits.specs.declared.op_kind.OpKind.TheVariants.{FifoLeft}
use Rattle.curve_call.specs.Calls.{Applies}
use Rattle.net_cells.specs.Meanings.{curve}
use Rattle.net_cells.specs.Answers.{MakesCurve}
use Rattle.net_cells.specs.cell_table.Values.{answer_of, meaning_of}
use Rattle.cell_numbers.specs.Shapes.{Serving}
use Rattle.cell_numbers.proofs.OnCells.{curve_holds, on_cell}
use Rattle.cell_eval.proofs.Handing.{applies_out, shared_makes, on_number_cell}
use Rattle.cell_eval.proofs.inputs.Inputs.left_over.Goals as goal

pub fifo_service-made-requires-clause-finite : goal.fifo_service-made-requires-clause-finite
fifo_service-made-requires-clause-finite g c =
    (curve_holds (g.T.Table.at c.args.self.now.table.now) c.args.service Serving c.deref.result.now c.requires.serves
    (c.curve_at.ensures ∙ ap (λ f. Some (curve f)) (sym c.deref.ensures))).finite

pub returns-clause-answer : goal.returns-clause-answer
returns-clause-answer g c =
    let at = g.T.Table.at c.args.self.now.table.now in
    let f = c.deref.result.now in
    let h = c.deref-2.result.now in
    let x = c.number_at-by.result in
    let r = answer_of meaning_of c.shared.result in
    on_cell at c.args.service f _ r (c.curve_at.ensures ∙ ap (λ f. Some (curve f)) (sym c.deref.ensures))
    (on_cell at c.args.cross h _ r (c.curve_at-2.ensures ∙ ap (λ f. Some (curve f)) (sym c.deref-2.ensures))
    (on_number_cell at c.args.theta x (λ y. MakesCurve (Applies (FifoLeft y) f h)) r c.number_at-by.ensures
    (shared_makes (Applies (FifoLeft x) f h) c.fifo_service-made.result r (applies_out (FifoLeft x) f h) c.fifo_service-made.ensures.answer
    c.shared.ensures)))
