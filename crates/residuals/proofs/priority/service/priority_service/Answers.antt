use Rattle.std.proofs.Common.{◌≡◌, ◌+◌, ◌-◌, arith, refl, subst}
use Rattle.std.proofs.lemmas.Result.{err_from_is_err_and}
use Rattle.upp_limits.specs.declared.op_kind.OpKind.TheVariants.{RunSup}
use Rattle.plain_operators.specs.CurveCalls.{AppliesTo}
use Rattle.outcomes.specs.Calls.{goes_on, stops}
use Rattle.plain_operators.proofs.CurveCalls.{applied_seen}
use Rattle.residuals.specs.calls.InTurn.{on_the_way, past, PriorityRefused}
use Rattle.outcomes.proofs.Spending.{counts_all, counts_refused}
use Rattle.residuals.proofs.calls.Placed.{if_err}
use Rattle.residuals.proofs.calls.PriorityCalls.{left_finite, left_nonneg, ok_service}
use Rattle.residuals.proofs.priority.service.priority_service.Goals as goal

pub returns-in_err-left-clause-answer : goal.returns-in_err-left-clause-answer
returns-in_err-left-clause-answer g c =
    let p = err_from_is_err_and c.from_residual.result c.from_residual.ensures.1 in
    rw (p.1, p.2) (stops c.in_err-left.field-0.0 c.in_err-left.ensures.answer refl)

pub run_sup-requires-clause-finite : goal.run_sup-requires-clause-finite
run_sup-requires-clause-finite g c =
    left_finite c.args.beta.now c.args.higher.now c.in_ok-left.left c.args.lower c.requires c.in_ok-left.ensures.answer

pub run_sup-requires-clause-nonneg : goal.run_sup-requires-clause-nonneg
run_sup-requires-clause-nonneg g c =
    left_nonneg c.args.beta.now c.args.higher.now c.in_ok-left.left c.args.lower c.in_ok-left.ensures.answer

pub returns-clause-answer : goal.returns-clause-answer
returns-clause-answer g c =
    goes_on c.in_ok-left.left c.in_ok-left.ensures.answer
    (applied_seen RunSup c.in_ok-left.left c.in_ok-left.left c.run_sup.result c.intact.result c.intact.ensures.same
    c.run_sup.ensures.value
    c.run_sup.ensures.limits c.intact.ensures.kept)

pub returns-clause-value : goal.returns-clause-value
returns-clause-value g c =
    ok_service c.args.beta.now c.args.higher.now c.args.lower c.intact.result
    (goes_on c.in_ok-left.left c.in_ok-left.ensures.answer
    (applied_seen RunSup c.in_ok-left.left c.in_ok-left.left c.run_sup.result c.intact.result c.intact.ensures.same
    c.run_sup.ensures.value
    c.run_sup.ensures.limits c.intact.ensures.kept))

pub returns-in_err-left-clause-counts : goal.returns-in_err-left-clause-counts
returns-in_err-left-clause-counts g c =
    let p = err_from_is_err_and c.from_residual.result c.from_residual.ensures.1 in
    let counts = c.in_err-left.ensures.counts in
    let most = counts.most in
    counts_refused 3 c.args.steps.now c.priority_left.new.steps c.from_residual.result p.0 p.1 counts.least (omega (arith, most))

pub returns-clause-counts : goal.returns-clause-counts
returns-clause-counts g c =
    let two = c.in_ok-left.ensures.counts.exact in
    let one = c.run_sup.ensures.count in
    counts_all 3 c.args.steps.now c.run_sup.new.steps c.intact.result (omega (arith, two, one))

pub returns-in_err-left-clause-refused : goal.returns-in_err-left-clause-refused
returns-in_err-left-clause-refused g c =
    let p = err_from_is_err_and c.from_residual.result c.from_residual.ensures.1 in
    rw (p.1, p.2) (on_the_way c.in_err-left.ensures.refused)

pub returns-clause-refused : goal.returns-clause-refused
returns-clause-refused g c =
    let all = c.in_ok-left.ensures.counts.exact in
    let one = c.run_sup.ensures.count in
    let last = applied_seen RunSup c.in_ok-left.left c.in_ok-left.left c.run_sup.result c.intact.result c.intact.ensures.same
    c.run_sup.ensures.value c.run_sup.ensures.limits c.intact.ensures.kept in
    let three : c.run_sup.new.steps - c.args.steps.now ≡ 2 + 1 = omega (arith, all, one) in
    if_err c.intact.result (λ e. PriorityRefused c.args.beta.now c.args.higher.now c.args.lower e (c.run_sup.new.steps - c.args.steps.now))
    (λ fault is. past c.in_ok-left.left 1 c.in_ok-left.ensures.answer three
    (refl, subst (λ r. AppliesTo RunSup c.in_ok-left.left r) is last))
