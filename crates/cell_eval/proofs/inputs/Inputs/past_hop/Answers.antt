use Rattle.std.proofs.Common.{◌≡◌, ◌+◌, ◌-◌, sym, ap, ◌∙◌, subst, arith}
use Rattle.std.specs.Prelude.{Some}
use Rattle.upp_limits.specs.declared.op_kind.OpKind.TheVariants.{Convolve}
use Rattle.curve_call.specs.Calls.{Applies}
use Rattle.curve_call.proofs.Applied.{applied_seen}
use Rattle.net_cells.specs.declared.cell.Kind.TheVariants.{Residual}
use Rattle.net_cells.specs.Cells.{cell_of}
use Rattle.net_cells.specs.Meanings.{curve}
use Rattle.net_cells.specs.Formulas.{value_of}
use Rattle.net_cells.specs.CellFormulas.{packets_to}
use Rattle.net_cells.specs.cell_table.Values.{answer_of, meaning_of}
use Rattle.cell_numbers.specs.Shapes.{Serving}
use Rattle.cell_eval.proofs.Meeting.{curve_map}
use Rattle.cell_eval.proofs.Handing.{applies_out, shared_makes}
use Rattle.cell_eval.proofs.PathSteps.{joined_answer, first_fails}
use Rattle.net_cells.specs.Answers.{MakesCurve}
use Rattle.net_cells.specs.Formulas.{operators, made}
use Rattle.net_cells.specs.Refusals.{RefusedAt}
use Rattle.residuals.proofs.calls.Placed.{if_err}
use Rattle.cell_eval.proofs.PathSteps.{packets_operators}
use Rattle.cell_eval.proofs.OperatorStopping.{first_refused, both_refused}
use Rattle.cell_eval.proofs.inputs.Inputs.past_hop.Goals as goal

pub curve_at-end-requires : goal.curve_at-end-requires
curve_at-end-requires g c =
    curve_map (g.T.Table.at c.args.self.now.table.now) (cell_of Residual c.args.flow (c.args.last + 1)) Serving (λ f. Unit {0})
    (c.requires.serves (c.args.last + 1) (omega arith)) (λ f q. tt)

pub returns-in-Ok-clause-answer : goal.returns-in-Ok-clause-answer
returns-in-Ok-clause-answer g c =
    let at = g.T.Table.at c.args.self.now.table.now in
    let f = c.in-Ok.packets in
    let k = c.deref.result.now in
    let r = answer_of meaning_of c.shared.result in
    let call = applied_seen Convolve f k c.convolve.result c.intact-made.result c.intact-made.ensures.same c.convolve.ensures.value c.convolve.ensures.limits
    c.intact-made.ensures.kept in
    joined_answer at (packets_to c.args.self.now.net.now c.args.flow c.args.last) (value_of (cell_of Residual c.args.flow (c.args.last + 1))) Convolve f k r
    c.in-Ok.ensures.answer (c.curve_at-end.ensures ∙ ap (λ f. Some (curve f)) (sym c.deref.ensures))
    (shared_makes (Applies Convolve f k) c.intact-made.result r (applies_out Convolve f k) call c.shared.ensures)

pub returns-in-Err-clause-answer : goal.returns-in-Err-clause-answer
returns-in-Err-clause-answer g c =
    first_fails (g.T.Table.at c.args.self.now.table.now) (packets_to c.args.self.now.net.now c.args.flow c.args.last)
    (value_of (cell_of Residual c.args.flow (c.args.last + 1))) c.in-Err.fault c.in-Err.ensures.answer

pub returns-in-Ok-clause-refused : goal.returns-in-Ok-clause-refused
returns-in-Ok-clause-refused g c =
    let at = g.T.Table.at c.args.self.now.table.now in
    let f = c.in-Ok.packets in
    let k = c.deref.result.now in
    let F = packets_to c.args.self.now.net.now c.args.flow c.args.last in
    let G = value_of (cell_of Residual c.args.flow (c.args.last + 1)) in
    let call = applied_seen Convolve f k c.convolve.result c.intact-made.result c.intact-made.ensures.same c.convolve.ensures.value c.convolve.ensures.limits
    c.intact-made.ensures.kept in
    let all = shared_makes (Applies Convolve f k) c.intact-made.result (answer_of meaning_of c.shared.result) (applies_out Convolve f k) call
    c.shared.ensures in
    let before = c.in-Ok.ensures.counts.exact in
    let own = packets_operators c.args.self.now.net.now c.args.flow c.args.last in
    let one = c.convolve.ensures.count in
    let count : operators F + (0 + 1) ≡ c.convolve.new.steps - c.args.steps.now = omega (arith, before, own, one) in
    if_err c.shared.result (λ e. RefusedAt at (made Convolve F G) e (c.convolve.new.steps - c.args.steps.now))
    (λ e refused. subst (λ n. RefusedAt at (made Convolve F G) e n) count
    (both_refused at F G Convolve f k e c.in-Ok.ensures.answer (c.curve_at-end.ensures ∙ ap (λ f. Some (curve f)) (sym c.deref.ensures))
    (subst (λ r. MakesCurve (Applies Convolve f k) (answer_of meaning_of r)) refused all)))

pub returns-in-Err-clause-refused : goal.returns-in-Err-clause-refused
returns-in-Err-clause-refused g c =
    first_refused (g.T.Table.at c.args.self.now.table.now) (packets_to c.args.self.now.net.now c.args.flow c.args.last)
    (value_of (cell_of Residual c.args.flow (c.args.last + 1))) Convolve c.in-Err.fault (c.to_hop.new.steps - c.args.steps.now)
    c.in-Err.ensures.refused
