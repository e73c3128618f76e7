use Rattle.std.proofs.Common.{◌≡◌, ◌+◌, ◌-◌, Ok, Err, refl, subst, arith}
use Rattle.std.proofs.lemmas.Result.{err_from_is_err_and}
use Rattle.upp_limits.specs.declared.op_kind.OpKind.TheVariants.{Scale, PosMinus}
use Rattle.plain_operators.specs.CurveCalls.{AppliesTo}
use Rattle.outcomes.specs.Calls.{stops}
use Rattle.plain_operators.proofs.CurveCalls.{applied_seen}
use Rattle.residuals.specs.calls.DrrCalls.{owed_in}
use Rattle.residuals.specs.calls.InTurn.{on_the_way, past, DrrRefused}
use Rattle.outcomes.proofs.Spending.{counts_all, counts_refused}
use Rattle.residuals.proofs.calls.Placed.{if_err}
use Rattle.residuals.proofs.calls.DrrCalls.{made, scaled_finite, ok_service}
use Rattle.residuals.proofs.drr.service.drr_service.Goals as goal

pub returns-in_err-scaled-clause-answer : goal.returns-in_err-scaled-clause-answer
returns-in_err-scaled-clause-answer g c =
    let p = err_from_is_err_and c.from_residual.result c.from_residual.ensures.1 in
    let first = applied_seen (Scale c.turn_of-turn.result.share) c.args.beta.now c.args.beta.now c.scale.result
    c.intact.result c.intact.ensures.same
    c.scale.ensures.value c.scale.ensures.limits c.intact.ensures.kept in
    rw (p.1, p.2) (stops c.in_err-scaled.field-0.0
    (subst (λ q. AppliesTo (Scale q) c.args.beta.now (Err c.in_err-scaled.field-0.0)) c.turn_of-turn.ensures.share
    (rw c.in_err-scaled.was at first)) refl)

pub pos_minus-requires : goal.pos_minus-requires
pos_minus-requires g c =
    let first = applied_seen (Scale c.turn_of-turn.result.share) c.args.beta.now c.args.beta.now c.scale.result
    c.intact.result c.intact.ensures.same
    c.scale.ensures.value c.scale.ensures.limits c.intact.ensures.kept in
    scaled_finite c.turn_of-turn.result.share c.args.beta.now c.in_ok-scaled.scaled c.requires.finite (rw
    c.in_ok-scaled.was at first).made

pub returns-clause-answer : goal.returns-clause-answer
returns-clause-answer g c =
    let first = applied_seen (Scale c.turn_of-turn.result.share) c.args.beta.now c.args.beta.now c.scale.result
    c.intact.result c.intact.ensures.same
    c.scale.ensures.value c.scale.ensures.limits c.intact.ensures.kept in
    let second = applied_seen (PosMinus c.turn_of-turn.result.owed) c.in_ok-scaled.scaled c.in_ok-scaled.scaled
    c.pos_minus.result c.intact-2.result
    c.intact-2.ensures.same c.pos_minus.ensures.value c.pos_minus.ensures.limits c.intact-2.ensures.kept in
    made c.args.beta.now c.in_ok-scaled.scaled c.args.quanta.now c.args.longest.now c.args.queue
    c.turn_of-turn.result.share c.turn_of-turn.result.owed c.intact-2.result
    c.turn_of-turn.ensures.share c.turn_of-turn.ensures.owed (rw c.in_ok-scaled.was at first) second

pub returns-clause-value : goal.returns-clause-value
returns-clause-value g c =
    ok_service c.args.beta.now c.args.quanta.now c.args.longest.now c.args.queue c.intact-2.result (returns-clause-answer g c)

pub returns-in_err-scaled-clause-refused : goal.returns-in_err-scaled-clause-refused
returns-in_err-scaled-clause-refused g c =
    let p = err_from_is_err_and c.from_residual.result c.from_residual.ensures.1 in
    let one = c.scale.ensures.count in
    let first = applied_seen (Scale c.turn_of-turn.result.share) c.args.beta.now c.args.beta.now c.scale.result
    c.intact.result c.intact.ensures.same
    c.scale.ensures.value c.scale.ensures.limits c.intact.ensures.kept in
    rw (p.1, p.2) (on_the_way (
      omega (arith, one),
      subst (λ q. AppliesTo (Scale q) c.args.beta.now (Err c.in_err-scaled.field-0.0)) c.turn_of-turn.ensures.share
          (rw c.in_err-scaled.was at first),
    ))

pub returns-clause-refused : goal.returns-clause-refused
returns-clause-refused g c =
    let first = applied_seen (Scale c.turn_of-turn.result.share) c.args.beta.now c.args.beta.now c.scale.result
    c.intact.result c.intact.ensures.same
    c.scale.ensures.value c.scale.ensures.limits c.intact.ensures.kept in
    let second = applied_seen (PosMinus c.turn_of-turn.result.owed) c.in_ok-scaled.scaled c.in_ok-scaled.scaled
    c.pos_minus.result c.intact-2.result
    c.intact-2.ensures.same c.pos_minus.ensures.value c.pos_minus.ensures.limits c.intact-2.ensures.kept in
    let one = c.scale.ensures.count in
    let two = c.pos_minus.ensures.count in
    let both : c.pos_minus.new.steps - c.args.steps.now ≡ 1 + 1 = omega (arith, one, two) in
    if_err c.intact-2.result
    (λ e. DrrRefused c.args.beta.now c.args.quanta.now c.args.longest.now c.args.queue e (c.pos_minus.new.steps - c.args.steps.now))
    (λ fault is. past c.in_ok-scaled.scaled 1
    (subst (λ q. AppliesTo (Scale q) c.args.beta.now (Ok c.in_ok-scaled.scaled)) c.turn_of-turn.ensures.share
    (rw c.in_ok-scaled.was at first)) both (
      refl,
      subst (λ r. AppliesTo (PosMinus (owed_in c.args.quanta.now c.args.longest.now c.args.queue)) c.in_ok-scaled.scaled r) is
          (subst (λ l. AppliesTo (PosMinus l) c.in_ok-scaled.scaled c.intact-2.result) c.turn_of-turn.ensures.owed second),
    ))

pub returns-in_err-scaled-clause-counts : goal.returns-in_err-scaled-clause-counts
returns-in_err-scaled-clause-counts g c =
    let p = err_from_is_err_and c.from_residual.result c.from_residual.ensures.1 in
    let one = c.scale.ensures.count in
    counts_refused 2 c.args.steps.now c.scale.new.steps c.from_residual.result p.0 p.1 (omega (arith, one)) (omega (arith, one))

pub returns-clause-counts : goal.returns-clause-counts
returns-clause-counts g c =
    let one = c.scale.ensures.count in
    let two = c.pos_minus.ensures.count in
    counts_all 2 c.args.steps.now c.pos_minus.new.steps c.intact-2.result (omega (arith, one, two))
