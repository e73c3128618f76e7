use Rattle.std.proofs.Common.{◌≡◌, ◌+◌, ◌-◌, ◌≤◌, sym, ◌∙◌, refl, arith, inl, inr}
use Rattle.std.proofs.lemmas.Result.{err_from_is_err_and}
use Rattle.upp_limits.specs.declared.op_kind.OpKind.TheVariants.{Convolve}
use Rattle.outcomes.specs.Calls.{goes_on, stops}
use Rattle.curve_call.proofs.Applied.{applied_seen}
use Rattle.outcomes.proofs.Spending.{spends_made, spends_part, spends_last}
use Rattle.subadd_closure.specs.CurveParts.{part_of}
use Rattle.subadd_closure.specs.FoldWork.{part_work}
use Rattle.subadd_closure.proofs.FoldThins.{next_thinnable}
use Rattle.subadd_closure.proofs.FoldMemory.{call_wants, made_wants}
use Rattle.subadd_closure.proofs.closing.with_star.Goals as goal

pub returns-in_err-star-clause-answer : goal.returns-in_err-star-clause-answer
returns-in_err-star-clause-answer g c =
    let p = err_from_is_err_and c.from_residual.result c.from_residual.ensures.1 in
    rw (p.1, p.2) (stops c.in_err-star.field-0.0 c.in_err-star.ensures.answer refl)

pub returns-clause-answer : goal.returns-clause-answer
returns-clause-answer g c =
    goes_on c.in_ok-star.star c.in_ok-star.ensures.answer
    (applied_seen Convolve c.args.sofar c.in_ok-star.star c.convolve_counted.result c.intact.result c.intact.ensures.same
    c.convolve_counted.ensures.value c.convolve_counted.ensures.limits c.intact.ensures.kept)

pub returns-in_err-star-clause-next : goal.returns-in_err-star-clause-next
returns-in_err-star-clause-next g c is counted =
    let work = part_work (part_of c.args.f.now.tail c.args.e.now) in
    let most : c.element_star.new.steps ≤ c.args.steps.now + work = (c.in_err-star.ensures.spends.counts work refl).most in
    absurd (omega (arith, most, counted))

pub returns-clause-next : goal.returns-clause-next
returns-clause-next g c is counted =
    let work = part_work (part_of c.args.f.now.tail c.args.e.now) in
    let first : c.element_star.new.steps ≡ c.args.steps.now + work = (c.in_ok-star.ensures.spends.counts work refl).exact in
    elim (c.convolve_counted.ensures.spends.memory (sym c.intact.ensures.same ∙ is)) [
      | inl last ↦ last.0
      | inr same ↦ absurd (omega (arith, first, same, counted))
    ]

pub convolve_counted-requires : goal.convolve_counted-requires
convolve_counted-requires g c =
    next_thinnable c.args.f.now c.args.sofar c.in_ok-star.star c.args.e.now c.requires.curve.normal c.requires.part
    c.requires.subadditive c.in_ok-star.ensures.answer

pub returns-then-leaves_as_is-clause-answer : goal.returns-then-leaves_as_is-clause-answer
returns-then-leaves_as_is-clause-answer g c =
    let (star, made, convolved) = c.if-leaves_as_is.ensures.leaves refl in
    goes_on star made convolved

-- ---- what is counted, and want of memory
pub returns-then-leaves_as_is-clause-spends : goal.returns-then-leaves_as_is-clause-spends
returns-then-leaves_as_is-clause-spends g c =
    let work = c.if-leaves_as_is.ensures.work refl in
    spends_made (part_work (part_of c.args.f.now.tail c.args.e.now) + 1) (omega (arith, work))

pub returns-in_err-star-clause-spends : goal.returns-in_err-star-clause-spends
returns-in_err-star-clause-spends g c =
    let r = c.from_residual in
    let p = err_from_is_err_and r.result r.ensures.1 in
    let none : c.args.steps.now ≡ c.args.steps.now + 0 = omega arith in
    spends_part 0 none c.in_err-star.ensures.spends (part_work (part_of c.args.f.now.tail c.args.e.now) + 1) (omega arith) r.result p.0 p.1
    (λ told. sym p.2 ∙ told) (λ lack ends. inl ends)

pub returns-clause-spends : goal.returns-clause-spends
returns-clause-spends g c =
    let f = c.args.f.now in
    let part = part_of f.tail c.args.e.now in
    let star = c.in_ok-star.star in
    let call = c.convolve_counted in
    let old = c.args.steps.now in
    let mid = c.element_star.new.steps in
    let new = call.new.steps in
    let spends = call.ensures.spends in
    let first : mid ≡ old + part_work part = (c.in_ok-star.ensures.spends.counts (part_work part) refl).exact in
    let rises : mid ≤ new = spends.rises in
    spends_last (part_work part) first spends c.intact.ensures.same (part_work part + 1) refl
    (λ told ends. elim ends [
      | inl counted ↦
          let second : new - mid ≡ 1 = counted.1 in
          inr record {
            counted = omega (arith, first, second);
            star = star;
            made = c.in_ok-star.ensures.answer;
            within = call_wants Convolve c.args.sofar star call.result call.result refl call.ensures.limits told;
          }
      | inr same ↦
          let none : new - mid ≡ 0 = same in
          inl (made_wants f part star (new - old) c.in_ok-star.ensures.answer (omega (arith, first, none, rises)))
    ])
