use Rattle.std.proofs.Common.{sym, ap, ◌∙◌}
use Rattle.std.specs.Prelude.{Some}
use Rattle.upp_limits.specs.declared.op_kind.OpKind.TheVariants.{Horizontal}
use Rattle.min_plus.specs.Deviations.{IsHorizontalDeviation}
use Rattle.net_cells.specs.Meanings.{curve, number}
use Rattle.net_cells.specs.Answers.{MakesNumber, Deviates}
use Rattle.net_cells.specs.cell_table.Values.{answer_of}
use Rattle.cell_numbers.specs.Shapes.{Serving}
use Rattle.cell_numbers.proofs.OnCells.{curve_holds, on_cell, deviates}
use Rattle.cell_numbers.proofs.numbers.delay_between.Goals as goal

pub horizontal-requires-clause-finite : goal.horizontal-requires-clause-finite
horizontal-requires-clause-finite g c =
    (curve_holds (g.T.Table.at c.args.table.now) c.args.by Serving c.deref-2.result.now c.requires.serves
    (c.curve_at-2.ensures ∙ ap (λ f. Some (curve f)) (sym c.deref-2.ensures))).finite

pub returns-clause-answer : goal.returns-clause-answer
returns-clause-answer g c =
    let at = g.T.Table.at c.args.table.now in
    let f = c.deref.result.now in
    let h = c.deref-2.result.now in
    on_cell at c.args.from f _ (answer_of number c.horizontal.result) (c.curve_at.ensures ∙ ap (λ f. Some (curve f)) (sym c.deref.ensures))
    (on_cell at c.args.by h (λ k. MakesNumber (Deviates Horizontal IsHorizontalDeviation f k)) (answer_of number c.horizontal.result)
    (c.curve_at-2.ensures ∙ ap (λ f. Some (curve f)) (sym c.deref-2.ensures))
    (deviates Horizontal IsHorizontalDeviation f h c.horizontal.result c.horizontal.ensures.limits c.horizontal.ensures.value
    c.horizontal.ensures.memory))
