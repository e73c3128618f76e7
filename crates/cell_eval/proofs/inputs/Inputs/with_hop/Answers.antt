use Rattle.std.proofs.Common.{◌≡◌, ◌+◌, ◌-◌, subst, arith}
use Rattle.std.specs.Prelude.{Ok}
use Rattle.upp_limits.specs.declared.op_kind.OpKind.TheVariants.{Convolve}
use Rattle.curve_call.specs.Calls.{Applies}
use Rattle.curve_call.proofs.Applied.{applied_seen}
use Rattle.residuals.proofs.calls.Placed.{if_err}
use Rattle.net_cells.specs.Meanings.{curve}
use Rattle.net_cells.specs.Answers.{Answers}
use Rattle.net_cells.specs.Formulas.{Formula, operators, value_of, made}
use Rattle.net_cells.specs.CellFormulas.{less}
use Rattle.net_cells.specs.Refusals.{RefusedAt}
use Rattle.net_cells.specs.cell_table.Values.{answer_of}
use Rattle.outcomes.proofs.Spending.{counts_all}
use Rattle.cell_eval.proofs.PathSteps.{made_answer, joined_answer, second_fails}
use Rattle.cell_eval.proofs.OperatorStopping.{second_refused, both_refused}
use Rattle.cell_eval.proofs.inputs.Inputs.with_hop.Given.{Over}
use Rattle.cell_eval.proofs.inputs.Inputs.with_hop.Goals.{After-intact}
use Rattle.cell_eval.proofs.inputs.Inputs.with_hop.Goals as goal

-- ---- where the next service in packets is made
call : (g : Over) (c : After-intact g) → Applies Convolve c.args.so_far.now c.in-Ok.next c.intact.result
call g c =
    applied_seen Convolve c.args.so_far.now c.in-Ok.next c.convolve.result c.intact.result c.intact.ensures.same c.convolve.ensures.value
    c.convolve.ensures.limits c.intact.ensures.kept

pub returns-in-Ok-clause-answer : goal.returns-in-Ok-clause-answer
returns-in-Ok-clause-answer g c = λ F p.
    let f = c.args.so_far.now in
    let n = c.in-Ok.next in
    joined_answer (g.T.Table.at c.args.self.now.table.now) F (less (value_of c.args.cell) c.args.bits) Convolve f n (answer_of curve c.intact.result) p
    c.in-Ok.ensures.answer (made_answer (Applies Convolve f n) c.intact.result (call g (goal.at.returns-in-Ok-clause-answer g c).After-intact))

pub returns-in-Ok-clause-counts : goal.returns-in-Ok-clause-counts
returns-in-Ok-clause-counts g c =
    let one = c.in-Ok.ensures.count in
    let two = c.convolve.ensures.count in
    counts_all 2 c.args.steps.now _ _ (omega (arith, one, two))

pub returns-in-Ok-clause-refused : goal.returns-in-Ok-clause-refused
returns-in-Ok-clause-refused g c =
    let at = g.T.Table.at c.args.self.now.table.now in
    let f = c.args.so_far.now in
    let k = c.in-Ok.next in
    let packets = less (value_of c.args.cell) c.args.bits in
    let first = c.in-Ok.ensures.count in
    let second = c.convolve.ensures.count in
    let count : 0 + 1 + 1 ≡ c.convolve.new.steps - c.args.steps.now = omega (arith, first, second) in
    if_err c.intact.result
    (λ e. (F : Formula) → Answers at F (Ok (curve f)) → RefusedAt at (made Convolve F packets) e (operators F + (c.convolve.new.steps - c.args.steps.now)))
    (λ e refused F p. subst (λ n. RefusedAt at (made Convolve F packets) e (operators F + n)) count
    (both_refused at F packets Convolve f k e p c.in-Ok.ensures.answer
    (subst (λ r. Applies Convolve f k r) refused (call g (goal.at.returns-in-Ok-clause-refused g c).After-intact))))

-- ---- where it is refused
pub returns-in-Err-clause-answer : goal.returns-in-Err-clause-answer
returns-in-Err-clause-answer g c = λ F p.
    second_fails (g.T.Table.at c.args.self.now.table.now) F (less (value_of c.args.cell) c.args.bits) Convolve c.args.so_far.now c.in-Err.fault p
    c.in-Err.ensures.answer

pub returns-in-Err-clause-counts : goal.returns-in-Err-clause-counts
returns-in-Err-clause-counts g c =
    let one = c.in-Err.ensures.count in
    record { exact = tt; least = omega (arith, one); most = omega (arith, one) }

pub returns-in-Err-clause-refused : goal.returns-in-Err-clause-refused
returns-in-Err-clause-refused g c = λ F p.
    let at = g.T.Table.at c.args.self.now.table.now in
    let packets = less (value_of c.args.cell) c.args.bits in
    let first = c.in-Err.ensures.count in
    let count : 1 ≡ c.in_packets.new.steps - c.args.steps.now = omega (arith, first) in
    subst (λ n. RefusedAt at (made Convolve F packets) c.in-Err.fault (operators F + n)) count
    (second_refused at F packets Convolve c.args.so_far.now c.in-Err.fault 1 p c.in-Err.ensures.refused)
