use Rattle.std.specs.Prelude.{[]}
use Rattle.std.proofs.Common.{◌≡◌, ◌+◌, ◌-◌, ◌≤◌, length, map, take}
use Rattle.std.proofs.Common.{drop, sym, refl, ap, ◌∙◌, subst, arith, inl, inr}
use Rattle.std.proofs.lemmas.Result.{err_from_is_err_and}
use Rattle.rational.specs.Extended.{◌≤ₑ◌}
use Rattle.rational.specs.declared.Extended.TheVariants.{Fin}
use Rattle.rational.proofs.Laws.{le_refl}
use Rattle.min_plus.specs.Functions.{zero_q}
use Rattle.outcomes.proofs.Spending.{counts_all, spends_so, spends_part}
use Rattle.subadd_closure.specs.CurveParts.{part_of}
use Rattle.subadd_closure.specs.FoldWork.{part_work, parts_work, fold_work}
use Rattle.subadd_closure.specs.SegmentLimits.{IsElementOf}
use Rattle.subadd_closure.proofs.FoldMemory.{then_wants}
use Rattle.subadd_closure.proofs.FirstElements.{two_elements}
use Rattle.subadd_closure.proofs.FoldSteps.{early_refusal, last_refusal, last_part}
use Rattle.subadd_closure.proofs.FoldLists.{all_elements, split_parts, work_front, work_up_to}
use Rattle.subadd_closure.proofs.LastElements.{is_last, last_curves, last_wants, last_work}
use Rattle.subadd_closure.proofs.closing.closed.Goals as goal

pub overflow_sub-last : goal.overflow_sub-last
overflow_sub-last g c =
    let two = two_elements c.args.f.now c.args.es.now c.requires.elements c.requires.curve.normal.raw
    c.requires.finite in
    omega (arith, two)

pub folded-requires-clause-some : goal.folded-requires-clause-some
folded-requires-clause-some g c =
    let two = two_elements c.args.f.now c.args.es.now c.requires.elements c.requires.curve.normal.raw
    c.requires.finite in
    omega (arith, two)

pub folded-requires-clause-inside : goal.folded-requires-clause-inside
folded-requires-clause-inside g c =
    let two = two_elements c.args.f.now c.args.es.now c.requires.elements c.requires.curve.normal.raw
    c.requires.finite in
    omega (arith, two)

pub returns-in_err-sofar-clause-answer : goal.returns-in_err-sofar-clause-answer
returns-in_err-sofar-clause-answer g c =
    let f = c.args.f.now in
    let es = c.args.es.now in
    let n = length es - 1 in
    let p = err_from_is_err_and c.from_residual.result c.from_residual.ensures.1 in
    early_refusal f (map (part_of f.tail) (take n es)) (map (part_of f.tail) (drop n es)) c.in_err-sofar.field-0.0
    c.from_residual.result
    (split_parts f es n c.requires.elements) c.in_err-sofar.ensures.answer (rw (p.1, p.2) refl)

pub element_star-requires-clause-part : goal.element_star-requires-clause-part
element_star-requires-clause-part g c =
    let f = c.args.f.now in
    let es = c.args.es.now in
    let two = two_elements f es c.requires.elements c.requires.curve.normal.raw c.requires.finite in
    subst (IsElementOf f) (sym c.index-es-last.is)
    (all_elements f es c.requires.elements (length es - 1) c.index-es-last.result (omega (arith, two)))

pub returns-in_err-star-clause-answer : goal.returns-in_err-star-clause-answer
returns-in_err-star-clause-answer g c =
    let f = c.args.f.now in
    let L = is_last f c.args.es.now c.index-es-last.result c.requires.elements c.requires.curve.normal c.requires.finite c.index-es-last.is in
    let r = c.from_residual-in_err-star in
    let p = err_from_is_err_and r.result r.ensures.1 in
    last_refusal f c.in_ok-sofar.sofar (map (part_of f.tail) (take (length c.args.es.now - 1) c.args.es.now)) (part_of f.tail c.index-es-last.result) c.in_err-star.field-0.0
    r.result
    L.are c.in_ok-sofar.ensures.answer c.in_err-star.ensures.answer (rw (p.1, p.2) refl)

pub started_from-requires-clause-operands : goal.started_from-requires-clause-operands
started_from-requires-clause-operands g c =
    let f = c.args.f.now in
    let L = is_last f c.args.es.now c.index-es-last.result c.requires.elements c.requires.curve.normal c.requires.finite c.index-es-last.is in
    last_curves f c.args.es.now c.index-es-last.result L c.in_ok-sofar.sofar c.in_ok-star.star c.requires.curve.normal c.requires.finite c.requires.nonneg
    c.in_ok-sofar.ensures.answer c.in_ok-star.ensures.answer

pub started_from-requires-clause-start : goal.started_from-requires-clause-start
started_from-requires-clause-start g c =
    subst (λ z. Fin zero_q ≤ₑ z) c.start_of.ensures (c.requires.nonneg zero_q (le_refl zero_q))

pub returns-clause-answer : goal.returns-clause-answer
returns-clause-answer g c =
    let f = c.args.f.now in
    let L = is_last f c.args.es.now c.index-es-last.result c.requires.elements c.requires.curve.normal c.requires.finite c.index-es-last.is in
    last_part f c.in_ok-sofar.sofar c.in_ok-star.star (map (part_of f.tail) (take (length c.args.es.now - 1) c.args.es.now)) (part_of f.tail c.index-es-last.result)
    c.start_of.result
    c.started_from.result L.are
    c.in_ok-sofar.ensures.answer c.in_ok-star.ensures.answer c.start_of.ensures c.started_from.ensures.answer

-- ---- what is counted, and want of memory
pub returns-in_err-sofar-clause-spends : goal.returns-in_err-sofar-clause-spends
returns-in_err-sofar-clause-spends g c =
    let f = c.args.f.now in
    let es = c.args.es.now in
    let n = length es - 1 in
    let r = c.from_residual in
    let p = err_from_is_err_and r.result r.ensures.1 in
    let all = ap parts_work (split_parts f es n c.requires.elements) in
    let work = work_front (map (part_of f.tail) (take n es)) (map (part_of f.tail) (drop n es)) in
    let none : c.args.steps.now ≡ c.args.steps.now + 0 = omega arith in
    spends_part 0 none c.in_err-sofar.ensures.spends (fold_work f) (omega (arith, all, work)) r.result p.0 p.1 (λ told. sym p.2 ∙ told)
    (λ lack wants. wants)

pub returns-in_err-star-clause-spends : goal.returns-in_err-star-clause-spends
returns-in_err-star-clause-spends g c =
    let f = c.args.f.now in
    let e = c.index-es-last.result in
    let L = is_last f c.args.es.now e c.requires.elements c.requires.curve.normal c.requires.finite c.index-es-last.is in
    let r = c.from_residual-in_err-star in
    let p = err_from_is_err_and r.result r.ensures.1 in
    let before = map (part_of f.tail) (take (length c.args.es.now - 1) c.args.es.now) in
    let old = c.args.steps.now in
    let mid = c.folded.new.steps in
    let new = c.element_star.new.steps in
    let spends = c.in_err-star.ensures.spends in
    let rises : mid ≤ new = spends.rises in
    let count : mid ≡ old + parts_work before = (c.in_ok-sofar.ensures.spends.counts (parts_work before) refl).exact in
    let all = ap parts_work L.are in
    let work = work_up_to before (part_of f.tail e) [] L.some in
    spends_part (parts_work before) count spends (fold_work f) (omega (arith, all, work)) r.result p.0 p.1 (λ told. sym p.2 ∙ told)
    (λ lack wants. last_wants f c.args.es.now e L c.in_ok-sofar.sofar (new - mid) (new - old) c.in_ok-sofar.ensures.answer
    (omega (arith, count, rises)) (inl wants))

pub returns-clause-spends : goal.returns-clause-spends
returns-clause-spends g c =
    let f = c.args.f.now in
    let e = c.index-es-last.result in
    let L = is_last f c.args.es.now e c.requires.elements c.requires.curve.normal c.requires.finite c.index-es-last.is in
    let before = map (part_of f.tail) (take (length c.args.es.now - 1) c.args.es.now) in
    let old = c.args.steps.now in
    let mid = c.folded.new.steps in
    let new = c.started_from.new.steps in
    let count : mid ≡ old + parts_work before = (c.in_ok-sofar.ensures.spends.counts (parts_work before) refl).exact in
    let star : c.element_star.new.steps ≡ mid + part_work (part_of f.tail e) = (c.in_ok-star.ensures.spends.counts (part_work (part_of f.tail e)) refl).exact in
    let last : new ≡ c.element_star.new.steps + 1 = c.started_from.ensures.count in
    let all = last_work f c.args.es.now e L old mid c.element_star.new.steps new count star last in
    spends_so (fold_work f) old new c.started_from.result (counts_all (fold_work f) old new c.started_from.result all)
    (λ is. last_wants f c.args.es.now e L c.in_ok-sofar.sofar (new - mid) (new - old) c.in_ok-sofar.ensures.answer
    (omega (arith, count, star, last))
    (inr record {
      counted = omega (arith, star, last);
      star = c.in_ok-star.star;
      made = c.in_ok-star.ensures.answer;
      within = then_wants c.in_ok-sofar.sofar c.in_ok-star.star c.start_of.result c.started_from.result c.started_from.ensures.answer is;
    }))
