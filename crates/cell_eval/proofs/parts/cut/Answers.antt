use Rattle.std.proofs.Common.{◌≡◌, ℕ, ◌+◌, ◌-◌, refl, subst, arith}
use Rattle.upp_limits.specs.declared.op_kind.OpKind.TheVariants.{Min}
use Rattle.upp_curve.specs.Kinds.{bucket}
use Rattle.run_laws.specs.Cards.{whole}
use Rattle.curve_call.specs.Again.{IsAgain}
use Rattle.curve_call.specs.Calls.{Applies}
use Rattle.outcomes.specs.Calls.{goes_on, stops}
use Rattle.curve_call.proofs.Applied.{applied_seen}
use Rattle.net_cells.specs.Meanings.{curve}
use Rattle.outcomes.proofs.Spending.{counts_all}
use Rattle.cell_eval.proofs.PathSteps.{made_answer}
use Rattle.std.specs.Prelude.{Ok}
use Rattle.residuals.specs.calls.InTurn.{past, on_the_way}
use Rattle.residuals.proofs.calls.Placed.{if_err}
use Rattle.net_cells.specs.Meanings.{CellTable}
use Rattle.net_cells.specs.Formulas.{Formula, operators, cut}
use Rattle.net_cells.specs.Answers.{Answers}
use Rattle.net_cells.specs.Refusals.{RefusedAt}
use Rattle.cell_eval.proofs.parts.cut.Goals as goal

pub returns-in-Ok-clause-answer : goal.returns-in-Ok-clause-answer
returns-in-Ok-clause-answer g c = λ at F server h.
    let f = c.args.flows.now in
    let B = c.in-Ok.link in
    let made = applied_seen Min f B c.min.result c.intact.result c.intact.ensures.same c.min.ensures.value c.min.ensures.limits c.intact.ensures.kept in
    goes_on (curve f) h
    (goes_on (curve B) (subst (IsAgain (bucket (whole c.args.bits) c.args.rate)) c.in-Ok.is c.link_bucket.ensures)
    (made_answer (Applies Min f B) c.intact.result made))

pub returns-in-Ok-clause-counts : goal.returns-in-Ok-clause-counts
returns-in-Ok-clause-counts g c = counts_all 1 c.args.steps.now _ _ c.min.ensures.count

pub returns-in-Err-clause-answer : goal.returns-in-Err-clause-answer
returns-in-Err-clause-answer g c = λ at F server h.
    goes_on (curve c.args.flows.now) h
    (stops c.in-Err.fault (subst (IsAgain (bucket (whole c.args.bits) c.args.rate)) c.in-Err.is c.link_bucket.ensures) refl)

pub returns-in-Ok-clause-refused : goal.returns-in-Ok-clause-refused
returns-in-Ok-clause-refused g c =
    let f = c.args.flows.now in
    let B = c.in-Ok.link in
    let made = applied_seen Min f B c.min.result c.intact.result c.intact.ensures.same c.min.ensures.value c.min.ensures.limits c.intact.ensures.kept in
    let one = c.min.ensures.count in
    let counted = c.min.new.steps - c.args.steps.now in
    let count : counted ≡ 0 + 1 = omega (arith, one) in
    if_err c.intact.result
    (λ e. (at : CellTable) (F : Formula) (server : ℕ) → Answers at F (Ok (curve f))
    → RefusedAt at (cut F server c.args.bits c.args.rate) e (operators F + counted))
    (λ e refused at F server h. past (curve f) counted h refl
    (past (curve B) 1 (subst (IsAgain (bucket (whole c.args.bits) c.args.rate)) c.in-Ok.is c.link_bucket.ensures) count
    (refl, subst (λ r. Applies Min f B r) refused made)))

pub returns-in-Err-clause-refused : goal.returns-in-Err-clause-refused
returns-in-Err-clause-refused g c = λ at F server h.
    let counted = c.args.steps.now - c.args.steps.now in
    let none : counted ≡ 0 = omega arith in
    past (curve c.args.flows.now) counted h refl
    (on_the_way (none, subst (IsAgain (bucket (whole c.args.bits) c.args.rate)) c.in-Err.is c.link_bucket.ensures))
