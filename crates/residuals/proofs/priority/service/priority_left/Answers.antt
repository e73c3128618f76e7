use Rattle.std.proofs.Common.{◌≡◌, ◌+◌, ◌-◌, refl, subst, arith}
use Rattle.std.proofs.lemmas.Result.{err_from_is_err_and}
use Rattle.upp_limits.specs.declared.op_kind.OpKind.TheVariants.{PosDiff, PosMinus}
use Rattle.plain_operators.specs.CurveCalls.{AppliesTo}
use Rattle.outcomes.specs.Calls.{goes_on, stops}
use Rattle.plain_operators.proofs.CurveCalls.{applied_seen}
use Rattle.run_laws.specs.Cards.{whole}
use Rattle.residuals.specs.calls.InTurn.{on_the_way, past, LeftRefused}
use Rattle.outcomes.proofs.Spending.{counts_all, counts_refused}
use Rattle.residuals.proofs.calls.PriorityCalls.{difference_finite}
use Rattle.residuals.proofs.calls.Placed.{if_err}
use Rattle.residuals.proofs.priority.service.priority_left.Goals as goal

pub returns-in_err-above-clause-answer : goal.returns-in_err-above-clause-answer
returns-in_err-above-clause-answer g c =
    let p = err_from_is_err_and c.from_residual.result c.from_residual.ensures.1 in
    let first = applied_seen PosDiff c.args.beta.now c.args.higher.now c.pos_diff.result c.intact.result
    c.intact.ensures.same c.pos_diff.ensures.value
    c.pos_diff.ensures.limits c.intact.ensures.kept in
    rw (p.1, p.2) (stops c.in_err-above.field-0.0 (rw c.in_err-above.was at first) refl)

pub packetised-requires : goal.packetised-requires
packetised-requires g c =
    let first = applied_seen PosDiff c.args.beta.now c.args.higher.now c.pos_diff.result c.intact.result
    c.intact.ensures.same c.pos_diff.ensures.value
    c.pos_diff.ensures.limits c.intact.ensures.kept in
    difference_finite c.args.beta.now c.args.higher.now c.in_ok-above.above c.requires (rw c.in_ok-above.was at
    first).made

pub returns-clause-answer : goal.returns-clause-answer
returns-clause-answer g c =
    let first = applied_seen PosDiff c.args.beta.now c.args.higher.now c.pos_diff.result c.intact.result
    c.intact.ensures.same c.pos_diff.ensures.value
    c.pos_diff.ensures.limits c.intact.ensures.kept in
    goes_on c.in_ok-above.above (rw c.in_ok-above.was at first)
    (subst (λ l. AppliesTo (PosMinus l) c.in_ok-above.above c.packetised.result) c.whole.ensures c.packetised.ensures.answer)

pub returns-in_err-above-clause-refused : goal.returns-in_err-above-clause-refused
returns-in_err-above-clause-refused g c =
    let p = err_from_is_err_and c.from_residual.result c.from_residual.ensures.1 in
    let one = c.pos_diff.ensures.count in
    let first = applied_seen PosDiff c.args.beta.now c.args.higher.now c.pos_diff.result c.intact.result
    c.intact.ensures.same c.pos_diff.ensures.value
    c.pos_diff.ensures.limits c.intact.ensures.kept in
    rw (p.1, p.2) (on_the_way (omega (arith, one), rw c.in_err-above.was at first))

pub returns-clause-refused : goal.returns-clause-refused
returns-clause-refused g c =
    let first = applied_seen PosDiff c.args.beta.now c.args.higher.now c.pos_diff.result c.intact.result
    c.intact.ensures.same c.pos_diff.ensures.value
    c.pos_diff.ensures.limits c.intact.ensures.kept in
    let one = c.pos_diff.ensures.count in
    let two = c.packetised.ensures.count in
    let both : c.packetised.new.steps - c.args.steps.now ≡ 1 + 1 = omega (arith, one, two) in
    if_err c.packetised.result (λ e. LeftRefused c.args.beta.now c.args.higher.now c.args.lower e (c.packetised.new.steps - c.args.steps.now))
    (λ fault is. past c.in_ok-above.above 1 (rw c.in_ok-above.was at first) both (
      refl,
      subst (λ r. AppliesTo (PosMinus (whole c.args.lower)) c.in_ok-above.above r) is
          (subst (λ l. AppliesTo (PosMinus l) c.in_ok-above.above c.packetised.result) c.whole.ensures c.packetised.ensures.answer),
    ))

pub returns-in_err-above-clause-counts : goal.returns-in_err-above-clause-counts
returns-in_err-above-clause-counts g c =
    let p = err_from_is_err_and c.from_residual.result c.from_residual.ensures.1 in
    let one = c.pos_diff.ensures.count in
    counts_refused 2 c.args.steps.now c.pos_diff.new.steps c.from_residual.result p.0 p.1 (omega (arith, one)) (omega (arith, one))

pub returns-clause-counts : goal.returns-clause-counts
returns-clause-counts g c =
    let one = c.pos_diff.ensures.count in
    let two = c.packetised.ensures.count in
    counts_all 2 c.args.steps.now c.packetised.new.steps c.packetised.result (omega (arith, one, two))
