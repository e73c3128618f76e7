use Rattle.std.proofs.Common.{◌≡◌, ◌+◌, ◌-◌, sym, ap, ◌∙◌, subst, arith}
use Rattle.std.specs.Prelude.{Some}
use Rattle.upp_limits.specs.declared.op_kind.OpKind.TheVariants.{Vertical}
use Rattle.min_plus.specs.Deviations.{IsVerticalDeviation}
use Rattle.residuals.proofs.calls.Placed.{if_err}
use Rattle.net_cells.specs.Meanings.{curve, number}
use Rattle.net_cells.specs.Answers.{MakesNumber, Deviates}
use Rattle.net_cells.specs.Formulas.{value_of, vertical}
use Rattle.net_cells.specs.CellFormulas.{less}
use Rattle.net_cells.specs.Refusals.{RefusedAt}
use Rattle.net_cells.specs.cell_table.Values.{answer_of}
use Rattle.outcomes.proofs.Spending.{counts_all}
use Rattle.cell_numbers.proofs.OnCells.{deviates}
use Rattle.cell_eval.proofs.Handing.{backlog_made, backlog_refused}
use Rattle.cell_eval.proofs.OperatorStopping.{backlog_first, backlog_second}
use Rattle.cell_eval.proofs.inputs.Inputs.backlog.Given.{Over}
use Rattle.cell_eval.proofs.inputs.Inputs.backlog.Goals.{After-deref, After-vertical}
use Rattle.cell_eval.proofs.inputs.Inputs.backlog.Goals as goal

-- ---- where the service in packets is made
comes : (g : Over) (c : After-deref g) → g.T.Table.at c.args.self.now.table.now c.args.from ≡ Some (curve c.deref.result.now)
comes g c = c.curve_at-from.ensures ∙ ap (λ f. Some (curve f)) (sym c.deref.ensures)

call : (g : Over) (c : After-vertical g)
    → MakesNumber (Deviates Vertical IsVerticalDeviation c.deref.result.now c.in-Ok.packets) (answer_of number c.vertical.result)
call g c =
    deviates Vertical IsVerticalDeviation c.deref.result.now c.in-Ok.packets c.vertical.result c.vertical.ensures.limits
    c.vertical.ensures.value c.vertical.ensures.memory

pub returns-in-Ok-clause-answer : goal.returns-in-Ok-clause-answer
returns-in-Ok-clause-answer g c =
    let here = goal.at.returns-in-Ok-clause-answer g c in
    backlog_made (g.T.Table.at c.args.self.now.table.now) c.args.from (less (value_of c.args.service) c.args.bits) c.deref.result.now
    (comes g here.After-deref) c.in-Ok.packets (answer_of number c.vertical.result) c.in-Ok.ensures.answer (call g here.After-vertical)

pub returns-in-Ok-clause-refused : goal.returns-in-Ok-clause-refused
returns-in-Ok-clause-refused g c =
    let here = goal.at.returns-in-Ok-clause-refused g c in
    let f = c.deref.result.now in
    let k = c.in-Ok.packets in
    let F = vertical (value_of c.args.from) (less (value_of c.args.service) c.args.bits) in
    let one = c.in-Ok.ensures.count in
    let two = c.vertical.ensures.count in
    let count : 0 + 1 + 1 ≡ c.vertical.new.steps - c.args.steps.now = omega (arith, one, two) in
    if_err c.vertical.result (λ e. RefusedAt (g.T.Table.at c.args.self.now.table.now) F e (c.vertical.new.steps - c.args.steps.now))
    (λ e refused. subst (λ n. RefusedAt (g.T.Table.at c.args.self.now.table.now) F e n) count
    (backlog_second (g.T.Table.at c.args.self.now.table.now) c.args.from (less (value_of c.args.service) c.args.bits) f k e (comes g here.After-deref)
    c.in-Ok.ensures.answer
    (subst (λ r. MakesNumber (Deviates Vertical IsVerticalDeviation f k) (answer_of number r)) refused (call g here.After-vertical))))

pub returns-in-Ok-clause-counts : goal.returns-in-Ok-clause-counts
returns-in-Ok-clause-counts g c =
    let one = c.in-Ok.ensures.count in
    let two = c.vertical.ensures.count in
    counts_all 2 c.args.steps.now _ _ (omega (arith, one, two))

-- ---- where it is refused
pub returns-in-Err-clause-answer : goal.returns-in-Err-clause-answer
returns-in-Err-clause-answer g c =
    backlog_refused (g.T.Table.at c.args.self.now.table.now) c.args.from (less (value_of c.args.service) c.args.bits) c.curve_at-from.result.now.value
    c.curve_at-from.ensures c.in-Err.fault c.in-Err.ensures.answer

pub returns-in-Err-clause-refused : goal.returns-in-Err-clause-refused
returns-in-Err-clause-refused g c =
    let at = g.T.Table.at c.args.self.now.table.now in
    let packets = less (value_of c.args.service) c.args.bits in
    let one = c.in-Err.ensures.count in
    let count : 1 ≡ c.in_packets.new.steps - c.args.steps.now = omega (arith, one) in
    subst (λ n. RefusedAt at (vertical (value_of c.args.from) packets) c.in-Err.fault n) count
    (backlog_first at c.args.from packets c.curve_at-from.result.now.value c.in-Err.fault 1 c.curve_at-from.ensures c.in-Err.ensures.refused)

pub returns-in-Err-clause-counts : goal.returns-in-Err-clause-counts
returns-in-Err-clause-counts g c =
    let one = c.in-Err.ensures.count in
    record { exact = tt; least = omega (arith, one); most = omega (arith, one) }
