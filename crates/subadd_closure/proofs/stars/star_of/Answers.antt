use Rattle.std.proofs.Common.{◌≡◌, ◌+◌, ◌-◌, ◌≤◌, ◌∙◌, refl, sym, ap, subst, arith}
use Rattle.std.proofs.lemmas.Result.{err_from_is_err_and}
use Rattle.upp_limits.specs.declared.op_kind.OpFault.TheVariants.{NoMemory}
use Rattle.outcomes.specs.Stages.{IsEqual}
use Rattle.outcomes.specs.Spending.{SpendsSteps}
use Rattle.outcomes.proofs.Spending.{spends_part, spends_last}
use Rattle.subadd_closure.specs.Stars.{StarWants, turn_work}
use Rattle.subadd_closure.proofs.FoldMemory.{first_wants, second_wants}
use Rattle.subadd_closure.proofs.ElementStars.{some_stops, some_goes_on}
use Rattle.subadd_closure.proofs.stars.star_of.Goals as goal

pub returns-in_err-all-in-Some-clause-answer : goal.returns-in_err-all-in-Some-clause-answer
returns-in_err-all-in-Some-clause-answer g c =
    let p = err_from_is_err_and c.from_residual.result c.from_residual.ensures.1 in
    some_stops c.args.turn c.in-Some.p c.args.c.now c.in_err-all-in-Some.field-0.0 c.from_residual.result c.in-Some.is
    c.in_err-all-in-Some.ensures.answer (rw (p.1, p.2) refl)

pub returns-in_ok-all-in-Some-clause-answer : goal.returns-in_ok-all-in-Some-clause-answer
returns-in_ok-all-in-Some-clause-answer g c =
    some_goes_on c.args.turn c.in-Some.p c.args.c.now c.in_ok-all-in-Some.all c.lowered-in-Some.result c.in-Some.is
    c.in_ok-all-in-Some.ensures.answer c.lowered-in-Some.ensures.answer

-- ---- what is counted, and want of memory
pub returns-in-None-clause-spends : goal.returns-in-None-clause-spends
returns-in-None-clause-spends g c =
    subst (λ turn. SpendsSteps (IsEqual (turn_work turn)) NoMemory (StarWants turn c.args.c.now) c.args.steps.now c.lowered.new.steps c.lowered.result)
    (sym c.in-None.is) c.lowered.ensures.spends

pub returns-in_err-all-in-Some-clause-spends : goal.returns-in_err-all-in-Some-clause-spends
returns-in_err-all-in-Some-clause-spends g c =
    let r = c.from_residual in
    let p = err_from_is_err_and r.result r.ensures.1 in
    let old = c.args.steps.now in
    let new = c.copied.new.steps in
    let spends = c.in_err-all-in-Some.ensures.spends in
    let most : new ≤ old + 1 = (spends.counts 1 refl).most in
    let none : old ≡ old + 0 = omega arith in
    let two : turn_work c.args.turn ≡ 2 = ap turn_work c.in-Some.is in
    spends_part 0 none spends (turn_work c.args.turn) (omega (arith, two)) r.result p.0 p.1 (λ told. sym p.2 ∙ told)
    (λ lack. first_wants c.args.turn c.in-Some.p c.args.c.now (new - old) c.in-Some.is (omega (arith, most)))

pub returns-in_ok-all-in-Some-clause-spends : goal.returns-in_ok-all-in-Some-clause-spends
returns-in_ok-all-in-Some-clause-spends g c =
    let old = c.args.steps.now in
    let mid = c.copied.new.steps in
    let new = c.lowered-in-Some.new.steps in
    let spends = c.lowered-in-Some.ensures.spends in
    let one : mid ≡ old + 1 = (c.in_ok-all-in-Some.ensures.spends.counts 1 refl).exact in
    let rises : mid ≤ new = spends.rises in
    let two : turn_work c.args.turn ≡ 2 = ap turn_work c.in-Some.is in
    spends_last 1 one spends refl (turn_work c.args.turn) (omega (arith, two))
    (λ told. second_wants c.args.turn c.in-Some.p c.args.c.now c.in_ok-all-in-Some.all (new - mid) (new - old) c.in-Some.is
    (omega (arith, one, rises)) c.in_ok-all-in-Some.ensures.answer)
