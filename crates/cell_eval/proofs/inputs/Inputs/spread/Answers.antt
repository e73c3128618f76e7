use Rattle.std.proofs.Common.{◌≡◌, ◌+◌, ◌-◌, sym, ap, ◌∙◌, subst, arith}
use Rattle.std.specs.Prelude.{Some}
use Rattle.upp_limits.specs.declared.op_kind.OpKind.TheVariants.{Deconvolve}
use Rattle.curve_call.specs.Calls.{Applies}
use Rattle.curve_call.proofs.Applied.{applied_seen}
use Rattle.residuals.proofs.calls.Placed.{if_err}
use Rattle.net_cells.specs.Meanings.{curve}
use Rattle.net_cells.specs.Answers.{MakesCurve}
use Rattle.net_cells.specs.Formulas.{value_of, made}
use Rattle.net_cells.specs.CellFormulas.{less}
use Rattle.net_cells.specs.Refusals.{RefusedAt}
use Rattle.net_cells.specs.cell_table.Values.{answer_of, meaning_of}
use Rattle.outcomes.proofs.Spending.{counts_all}
use Rattle.cell_eval.proofs.Handing.{applies_out, shared_makes}
use Rattle.cell_eval.proofs.PathSteps.{joined_answer, second_fails}
use Rattle.cell_eval.proofs.OperatorStopping.{second_refused, both_refused}
use Rattle.cell_eval.proofs.inputs.Inputs.spread.Given.{Over}
use Rattle.cell_eval.proofs.inputs.Inputs.spread.Goals.{After-shared}
use Rattle.cell_eval.proofs.inputs.Inputs.spread.Goals as goal

-- ---- where the service in packets is made
call : (g : Over) (c : After-shared g) → MakesCurve (Applies Deconvolve c.deref.result.now c.in-Ok.packets) (answer_of meaning_of c.shared.result)
call g c =
    let f = c.deref.result.now in
    let k = c.in-Ok.packets in
    shared_makes (Applies Deconvolve f k) c.intact-made.result (answer_of meaning_of c.shared.result) (applies_out Deconvolve f k)
    (applied_seen Deconvolve f k c.deconvolve.result c.intact-made.result c.intact-made.ensures.same c.deconvolve.ensures.value
    c.deconvolve.ensures.limits c.intact-made.ensures.kept) c.shared.ensures

pub returns-in-Ok-clause-answer : goal.returns-in-Ok-clause-answer
returns-in-Ok-clause-answer g c =
    joined_answer (g.T.Table.at c.args.self.now.table.now) (value_of c.args.from) (less (value_of c.args.service) c.args.bits) Deconvolve
    c.deref.result.now c.in-Ok.packets (answer_of meaning_of c.shared.result)
    (c.curve_at-from.ensures ∙ ap (λ f. Some (curve f)) (sym c.deref.ensures)) c.in-Ok.ensures.answer
    (call g (goal.at.returns-in-Ok-clause-answer g c).After-shared)

pub returns-in-Ok-clause-refused : goal.returns-in-Ok-clause-refused
returns-in-Ok-clause-refused g c =
    let at = g.T.Table.at c.args.self.now.table.now in
    let f = c.deref.result.now in
    let k = c.in-Ok.packets in
    let packets = less (value_of c.args.service) c.args.bits in
    let first = c.in-Ok.ensures.count in
    let second = c.deconvolve.ensures.count in
    let count : 0 + (0 + 1 + 1) ≡ c.deconvolve.new.steps - c.args.steps.now = omega (arith, first, second) in
    if_err c.shared.result
    (λ e. RefusedAt at (made Deconvolve (value_of c.args.from) packets) e (c.deconvolve.new.steps - c.args.steps.now))
    (λ e refused. subst (λ n. RefusedAt at (made Deconvolve (value_of c.args.from) packets) e n) count
    (both_refused at (value_of c.args.from) packets Deconvolve f k e
    (c.curve_at-from.ensures ∙ ap (λ f. Some (curve f)) (sym c.deref.ensures)) c.in-Ok.ensures.answer
    (subst (λ r. MakesCurve (Applies Deconvolve f k) (answer_of meaning_of r)) refused
    (call g (goal.at.returns-in-Ok-clause-refused g c).After-shared))))

pub returns-in-Ok-clause-counts : goal.returns-in-Ok-clause-counts
returns-in-Ok-clause-counts g c =
    let first = c.in-Ok.ensures.count in
    let second = c.deconvolve.ensures.count in
    counts_all 2 c.args.steps.now _ _ (omega (arith, first, second))

-- ---- where it is refused
pub returns-in-Err-clause-answer : goal.returns-in-Err-clause-answer
returns-in-Err-clause-answer g c =
    second_fails (g.T.Table.at c.args.self.now.table.now) (value_of c.args.from) (less (value_of c.args.service) c.args.bits) Deconvolve
    c.curve_at-from.result.now.value c.in-Err.fault c.curve_at-from.ensures c.in-Err.ensures.answer

pub returns-in-Err-clause-refused : goal.returns-in-Err-clause-refused
returns-in-Err-clause-refused g c =
    let packets = less (value_of c.args.service) c.args.bits in
    let first = c.in-Err.ensures.count in
    let count : 0 + 1 ≡ c.in_packets.new.steps - c.args.steps.now = omega (arith, first) in
    subst (λ n. RefusedAt (g.T.Table.at c.args.self.now.table.now) (made Deconvolve (value_of c.args.from) packets) c.in-Err.fault n) count
    (second_refused (g.T.Table.at c.args.self.now.table.now) (value_of c.args.from) packets Deconvolve c.curve_at-from.result.now.value c.in-Err.fault 1
    c.curve_at-from.ensures c.in-Err.ensures.refused)

pub returns-in-Err-clause-counts : goal.returns-in-Err-clause-counts
returns-in-Err-clause-counts g c =
    let first = c.in-Err.ensures.count in
    record { exact = tt; least = omega (arith, first); most = omega (arith, first) }
