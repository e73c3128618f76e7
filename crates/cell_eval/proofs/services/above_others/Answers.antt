use Rattle.std.proofs.Common.{◌≡◌, ◌-◌, sym, ap, ◌∙◌, subst, arith}
use Rattle.std.specs.Prelude.{IfErr}
use Rattle.residuals.specs.calls.PriorityCalls.{MakesPriority}
use Rattle.residuals.specs.calls.InTurn.{past, PriorityRefused}
use Rattle.net_cells.specs.declared.cell.Kind.TheVariants.{Higher}
use Rattle.net_cells.specs.Cells.{cell_of}
use Rattle.net_cells.specs.Visits.{longest_of, longest_after}
use Rattle.net_cells.specs.Meanings.{curve}
use Rattle.net_cells.specs.Formulas.{value_of, priority}
use Rattle.net_cells.specs.Answers.{Answers, MakesCurve}
use Rattle.net_cells.specs.Refusals.{RefusedAt}
use Rattle.net_cells.specs.cell_table.Values.{answer_of, meaning_of}
use Rattle.cell_numbers.specs.declared.found.Pick.TheVariants.{AfterQueue}
use Rattle.cell_numbers.proofs.Choosing.{picked_are}
use Rattle.cell_numbers.proofs.OnCells.{on_cell}
use Rattle.cell_eval.proofs.OperatorStopping.{err_map}
use Rattle.cell_eval.proofs.services.above_others.Given.{Over}
use Rattle.cell_eval.proofs.services.above_others.Goals.{After-longest_at-lower}
use Rattle.cell_eval.proofs.services.above_others.Goals as goal

-- the longest packet of the queues after this one
below : (g : Over) (c : After-longest_at-lower g) → c.longest_at-lower.result ≡ longest_after c.args.net.now c.args.place.0 c.args.place.1
below g c =
    c.longest_at-lower.ensures ∙ ap (longest_of c.args.net.now) (sym (picked_are c.args.net.now c.args.place.0 (AfterQueue c.args.place.1)))

pub returns-clause-answer : goal.returns-clause-answer
returns-clause-answer g c =
    let at = g.T.Table.at c.args.table.now in
    let β = c.args.service.now in
    let cell = cell_of Higher c.args.place.0 c.args.place.1 in
    let l = c.longest_at-lower.result in
    let r = answer_of meaning_of c.service_above.result in
    subst (λ n. Answers at (priority β (value_of cell) n) r) (below g (goal.at.returns-clause-answer g c).After-longest_at-lower)
    (on_cell at cell c.curve_at.result.now.value (λ f. MakesCurve (MakesPriority β f l)) r c.curve_at.ensures c.service_above.ensures.answer)

pub returns-clause-counts : goal.returns-clause-counts
returns-clause-counts g c = c.service_above.ensures.counts

pub returns-clause-refused : goal.returns-clause-refused
returns-clause-refused g c =
    let at = g.T.Table.at c.args.table.now in
    let β = c.args.service.now in
    let before = value_of (cell_of Higher c.args.place.0 c.args.place.1) in
    let f = c.curve_at.result.now.value in
    let l = c.longest_at-lower.result in
    let counted = c.service_above.new.steps - c.args.steps.now in
    subst (λ n. IfErr c.service_above.result (λ e. RefusedAt at (priority β before n) e counted))
    (below g (goal.at.returns-clause-refused g c).After-longest_at-lower)
    (err_map c.service_above.result (λ e. PriorityRefused β f l e counted) (λ e. RefusedAt at (priority β before l) e counted)
    (λ e r. past (curve f) counted c.curve_at.ensures (omega arith) r) c.service_above.ensures.refused)
