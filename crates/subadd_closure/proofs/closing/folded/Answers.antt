use Rattle.std.specs.Prelude.{[], ◌∷◌, Ok, Err}
use Rattle.std.proofs.Common.{◌≡◌, ◌+◌, ◌-◌, ◌≤◌, map, take, drop, refl, sym, ◌∙◌, ap, subst, arith}
use Rattle.std.proofs.lemmas.Result.{err_from_is_err_and}
use Rattle.outcomes.proofs.Spending.{spends_made, spends_part}
use Rattle.subadd_closure.specs.CurveParts.{part_of}
use Rattle.subadd_closure.specs.Folds.{PartsAnswer}
use Rattle.subadd_closure.specs.FoldWork.{part_work, parts_work}
use Rattle.subadd_closure.specs.SegmentLimits.{IsElementOf}
use Rattle.subadd_closure.proofs.FoldThins.{sofar_subadditive}
use Rattle.subadd_closure.proofs.FoldMemory.{after_parts, second_within, later_within}
use Rattle.subadd_closure.proofs.FoldSteps.{first_part, first_stops, next_part, next_stops}
use Rattle.subadd_closure.proofs.FoldLists.{one_more, split_at, split_front, all_elements}
use Rattle.subadd_closure.proofs.FoldLists.{work_one, work_front, work_more, work_up_to, some_taken}
use Rattle.subadd_closure.proofs.closing.folded.Goals as goal

pub element_star-requires-clause-part : goal.element_star-requires-clause-part
element_star-requires-clause-part g c =
    let es = c.args.es.now in
    let low = c.requires.some in
    let high = c.requires.inside in
    subst (IsElementOf c.args.f.now) (sym c.index-es-0.is)
    (all_elements c.args.f.now es c.requires.elements 0 c.index-es-0.result (omega (arith, low, high)))

pub returns-in_err-sofar-clause-answer : goal.returns-in_err-sofar-clause-answer
returns-in_err-sofar-clause-answer g c =
    let f = c.args.f.now in
    let es = c.args.es.now in
    let n = c.args.last in
    let e = c.index-es-0.result in
    let high = c.requires.inside in
    let p = err_from_is_err_and c.from_residual.result c.from_residual.ensures.1 in
    subst (λ z. PartsAnswer f z c.from_residual.result)
    (sym (split_front f.tail es 0 n e c.requires.some (omega (arith, high)) c.index-es-0.is))
    (rw (p.1, p.2) (first_stops f (part_of f.tail e) (map (part_of f.tail) (drop 1 (take n es))) c.in_err-sofar.field-0.0
    c.in_err-sofar.ensures.answer))

pub loop-i-init : goal.loop-i-init
loop-i-init g c =
    let f = c.args.f.now in
    let es = c.args.es.now in
    let e = c.index-es-0.result in
    let sofar = c.in_ok-sofar.sofar in
    let low = c.requires.some in
    let high = c.requires.inside in
    let one = one_more f.tail es 0 e (omega (arith, low, high)) c.index-es-0.is in
    let all : c.element_star.new.steps ≡ c.args.steps.now + part_work (part_of f.tail e) =
    (c.in_ok-sofar.ensures.spends.counts (part_work (part_of f.tail e)) refl).exact in
    let work = ap parts_work one in
    let alone = work_one (part_of f.tail e) in
    record {
      answer = subst (λ z. PartsAnswer f z (Ok sofar)) (sym one) (first_part f (part_of f.tail e) sofar
          c.in_ok-sofar.ensures.answer);
      count = omega (arith, all, work, alone);
    }

pub is_within-next_within-requires-clause-part : goal.is_within-next_within-requires-clause-part
is_within-next_within-requires-clause-part g c =
    let i = c.loop-i.i in
    let inside = c.loop-i-test.true in
    let high = c.requires.inside in
    subst (IsElementOf c.args.f.now) (sym c.index-es-next.is)
    (all_elements c.args.f.now c.args.es.now c.requires.elements (i + 1) c.index-es-next.result (omega (arith, inside, high)))

pub with_star-requires-clause-part : goal.with_star-requires-clause-part
with_star-requires-clause-part g c =
    let i = c.loop-i.i in
    let inside = c.loop-i-test.true in
    let high = c.requires.inside in
    subst (IsElementOf c.args.f.now) (sym c.index-es-i.is)
    (all_elements c.args.f.now c.args.es.now c.requires.elements i c.index-es-i.result (omega (arith, inside, high)))

pub with_star-requires-clause-subadditive : goal.with_star-requires-clause-subadditive
with_star-requires-clause-subadditive g c =
    sofar_subadditive c.args.f.now c.loop-i.sofar c.args.es.now c.loop-i.i c.requires.curve.normal
    (all_elements c.args.f.now c.args.es.now c.requires.elements) c.loop-i.invariant.answer

pub returns-in_err-sofar-2-clause-answer : goal.returns-in_err-sofar-2-clause-answer
returns-in_err-sofar-2-clause-answer g c =
    let f = c.args.f.now in
    let es = c.args.es.now in
    let n = c.args.last in
    let i = c.loop-i.i in
    let e = c.index-es-i.result in
    let high = c.requires.inside in
    let r = c.from_residual-in_err-sofar-2 in
    let p = err_from_is_err_and r.result r.ensures.1 in
    subst (λ z. PartsAnswer f z r.result)
    (sym (split_front f.tail es i n e c.loop-i-test.true (omega (arith, high)) c.index-es-i.is))
    (rw (p.1, p.2) (next_stops f c.loop-i.sofar (map (part_of f.tail) (take i es))
    (map (part_of f.tail) (drop (i + 1) (take n es)))
    (part_of f.tail e) c.in_err-sofar-2.field-0.0 c.loop-i.invariant.answer c.in_err-sofar-2.ensures.answer))

pub loop-i-preserved : goal.loop-i-preserved
loop-i-preserved g c =
    let f = c.args.f.now in
    let es = c.args.es.now in
    let i = c.loop-i.i in
    let e = c.index-es-i.result in
    let before = map (part_of f.tail) (take i es) in
    let count = c.loop-i.invariant.count in
    let all : c.with_star.new.steps ≡ c.loop-i.steps + (part_work (part_of f.tail e) + 1) =
    (c.in_ok-sofar-2.ensures.spends.counts (part_work (part_of f.tail e) + 1) refl).exact in
    let one = one_more f.tail es i e (omega (arith, c.loop-i-test.true, c.requires.inside)) c.index-es-i.is in
    let more = ap parts_work one in
    let work = work_more before (part_of f.tail e)
    (some_taken f.tail es i c.loop-i.auto.i (omega (arith, c.loop-i-test.true, c.requires.inside))) in
    record {
      answer = subst (λ z. PartsAnswer f z (Ok c.in_ok-sofar-2.sofar)) (sym one)
          (next_part f c.loop-i.sofar before (part_of f.tail e) c.in_ok-sofar-2.sofar c.loop-i.invariant.answer
          c.in_ok-sofar-2.ensures.answer);
      count = omega (arith, count, all, more, work);
    }

pub returns-clause-answer : goal.returns-clause-answer
returns-clause-answer g c =
    let f = c.args.f.now in
    let es = c.args.es.now in
    let low = c.requires.some in
    let done : c.loop-i.i ≡ c.args.last = omega (arith, low) in
    subst (λ k. PartsAnswer f (map (part_of f.tail) (take k es)) (Ok c.loop-i.sofar)) done c.loop-i.invariant.answer

-- ---- what is counted, and want of memory
pub returns-in_err-sofar-clause-spends : goal.returns-in_err-sofar-clause-spends
returns-in_err-sofar-clause-spends g c =
    let f = c.args.f.now in
    let es = c.args.es.now in
    let n = c.args.last in
    let e = c.index-es-0.result in
    let low = c.requires.some in
    let high = c.requires.inside in
    let r = c.from_residual in
    let p = err_from_is_err_and r.result r.ensures.1 in
    let all = ap parts_work (split_front f.tail es 0 n e low (omega (arith, high)) c.index-es-0.is) in
    let alone = work_one (part_of f.tail e) in
    let work = work_front (part_of f.tail e ∷ []) (map (part_of f.tail) (drop 1 (take n es))) in
    let none : c.args.steps.now ≡ c.args.steps.now + 0 = omega arith in
    spends_part 0 none c.in_err-sofar.ensures.spends (parts_work (map (part_of f.tail) (take n es))) (omega (arith, all, alone, work))
    r.result p.0 p.1 (λ told. sym p.2 ∙ told)
    (λ lack wants. record {
      before = [];
      part = part_of f.tail e;
      after = map (part_of f.tail) (drop 1 es);
      are = ap (map (part_of f.tail)) (sym c.requires.elements)
          ∙ split_at f.tail es 0 e (omega (arith, low, high)) c.index-es-0.is;
      stops = wants;
      next = λ counted. second_within f es c.requires.elements c.requires.curve.normal.raw c.requires.finite;
    })

pub returns-in_err-sofar-2-clause-spends : goal.returns-in_err-sofar-2-clause-spends
returns-in_err-sofar-2-clause-spends g c =
    let f = c.args.f.now in
    let es = c.args.es.now in
    let n = c.args.last in
    let i = c.loop-i.i in
    let e = c.index-es-i.result in
    let inside = c.loop-i-test.true in
    let high = c.requires.inside in
    let before = map (part_of f.tail) (take i es) in
    let some = some_taken f.tail es i c.loop-i.auto.i (omega (arith, inside, high)) in
    let old = c.args.steps.now in
    let mid = c.loop-i.steps in
    let new = c.with_star.new.steps in
    let spends = c.in_err-sofar-2.ensures.spends in
    let rises : mid ≤ new = spends.rises in
    let count : mid ≡ old + parts_work before = c.loop-i.invariant.count in
    let all = ap parts_work (split_front f.tail es i n e inside (omega (arith, high)) c.index-es-i.is) in
    let room = work_up_to before (part_of f.tail e) (map (part_of f.tail) (drop (i + 1) (take n es))) some in
    let work = work_more before (part_of f.tail e) some in
    let r = c.from_residual-in_err-sofar-2 in
    let p = err_from_is_err_and r.result r.ensures.1 in
    spends_part (parts_work before) count spends (parts_work (map (part_of f.tail) (take n es))) (omega (arith, all, room)) r.result p.0 p.1 (λ told. sym p.2 ∙ told)
    (λ lack stops. record {
      before = before;
      part = part_of f.tail e;
      after = map (part_of f.tail) (drop (i + 1) es);
      are = ap (map (part_of f.tail)) (sym c.requires.elements)
          ∙ split_at f.tail es i e (omega (arith, inside, high)) c.index-es-i.is;
      stops = after_parts f c.loop-i.sofar before (part_of f.tail e) (new - mid) (new - old) c.loop-i.invariant.answer
          (omega (arith, count, rises)) stops;
      next = λ counted. later_within f es (i + 1) c.index-es-next.result (omega (arith, inside, high)) c.index-es-next.is
          (c.is_within-next_within.ensures (c.in_err-sofar-2.ensures.next (ap Err lack) (omega (arith, count, rises, work, counted))));
    })

pub returns-clause-spends : goal.returns-clause-spends
returns-clause-spends g c =
    let f = c.args.f.now in
    let es = c.args.es.now in
    let low = c.requires.some in
    let done : c.loop-i.i ≡ c.args.last = omega (arith, low) in
    spends_made (parts_work (map (part_of f.tail) (take c.args.last es)))
    (c.loop-i.invariant.count ∙ ap (λ k. c.args.steps.now + parts_work (map (part_of f.tail) (take k es))) done)
