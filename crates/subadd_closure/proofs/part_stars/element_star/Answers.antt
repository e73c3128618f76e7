use Rattle.std.proofs.Common.{◌≡◌, ◌+◌, ◌-◌, ◌≤◌, refl, sym, ap, ◌∙◌, subst, arith}
use Rattle.std.proofs.lemmas.Result.{err_from_is_err_and}
use Rattle.upp_curve.specs.declared.affine_segment.element.Element.TheVariants.{Point, Open}
use Rattle.outcomes.proofs.Spending.{spends_stopped, spends_as}
use Rattle.subadd_closure.specs.CurveParts.{copies_of, part_of}
use Rattle.subadd_closure.specs.FoldWork.{part_work}
use Rattle.subadd_closure.specs.PartStars.{turn_of}
use Rattle.subadd_closure.specs.SegmentLimits.{IsElementOf}
use Rattle.subadd_closure.specs.Stars.{IsPeriodAndRise, turn_work}
use Rattle.subadd_closure.proofs.FoldMemory.{part_wants, segment_wants}
use Rattle.subadd_closure.proofs.ElementFits.{point_start, point_low, segment_late}
use Rattle.subadd_closure.proofs.ElementFits.{segment_reads, part_turns, turn_works}
use Rattle.subadd_closure.proofs.PartStars.{star_is_part, part_refused}
use Rattle.subadd_closure.proofs.part_stars.element_star.Goals as goal

pub point_star-requires-clause-time : goal.point_star-requires-clause-time
point_star-requires-clause-time g c =
    point_start c.args.f.now c.in-Point.x c.in-Point.v c.tail.ensures.kept.normal
    (subst (IsElementOf c.args.f.now) c.in-Point.is c.requires.part)

pub point_star-requires-clause-value : goal.point_star-requires-clause-value
point_star-requires-clause-value g c =
    point_low c.args.f.now c.in-Point.x c.in-Point.v c.tail.ensures.kept.normal c.requires.finite c.requires.nonneg
    (subst (IsElementOf c.args.f.now) c.in-Point.is c.requires.part)

pub point_star-requires-clause-turn : goal.point_star-requires-clause-turn
point_star-requires-clause-turn g c =
    let f = c.args.f.now in
    let e = c.args.e.now in
    let turn = c.turn_of-turn.ensures ∙ ap (λ t. turn_of (copies_of t e)) c.tail.ensures.tail in
    subst IsPeriodAndRise (sym turn) (part_turns f e c.tail.ensures.kept)

pub returns-in-Point-clause-answer : goal.returns-in-Point-clause-answer
returns-in-Point-clause-answer g c =
    let f = c.args.f.now in
    let e = c.args.e.now in
    let turn = c.turn_of-turn.ensures ∙ ap (λ t. turn_of (copies_of t e)) c.tail.ensures.tail in
    star_is_part f e (Point c.in-Point.x c.in-Point.v) c.turn_of-turn.result c.point_star.result c.in-Point.is turn tt
    c.point_star.ensures.answer

pub returns-in_err-m-in-Open-clause-answer : goal.returns-in_err-m-in-Open-clause-answer
returns-in_err-m-in-Open-clause-answer g c =
    let p = err_from_is_err_and c.from_residual.result c.from_residual.ensures.1 in
    part_refused c.args.f.now c.args.e.now (Open c.in-Open.from c.in-Open.to c.in-Open.line)
    c.in_err-m-in-Open.field-0.0
    c.from_residual.result c.in-Open.is c.in_err-m-in-Open.ensures.over (rw (p.1, p.2) refl)

pub segment_star-requires-clause-part : goal.segment_star-requires-clause-part
segment_star-requires-clause-part g c =
    let f = c.args.f.now in
    record {
      stretch = c.in_ok-m-in-Open.ensures.within.stretch;
      late = segment_late f c.in-Open.from c.in-Open.to c.in-Open.line c.tail.ensures.kept.normal c.requires.finite
          c.requires.nonneg
          (subst (IsElementOf f) c.in-Open.is c.requires.part);
    }

pub segment_star-requires-clause-reads : goal.segment_star-requires-clause-reads
segment_star-requires-clause-reads g c =
    segment_reads c.args.f.now c.in-Open.from c.in-Open.to c.in-Open.line c.tail.ensures.kept
    (subst (IsElementOf c.args.f.now) c.in-Open.is c.requires.part)

pub segment_star-requires-clause-turn : goal.segment_star-requires-clause-turn
segment_star-requires-clause-turn g c =
    let f = c.args.f.now in
    let e = c.args.e.now in
    let turn = c.turn_of-turn.ensures ∙ ap (λ t. turn_of (copies_of t e)) c.tail.ensures.tail in
    subst IsPeriodAndRise (sym turn) (part_turns f e c.tail.ensures.kept)

pub returns-in_ok-m-in-Open-clause-answer : goal.returns-in_ok-m-in-Open-clause-answer
returns-in_ok-m-in-Open-clause-answer g c =
    let f = c.args.f.now in
    let e = c.args.e.now in
    let turn = c.turn_of-turn.ensures ∙ ap (λ t. turn_of (copies_of t e)) c.tail.ensures.tail in
    star_is_part f e (Open c.in-Open.from c.in-Open.to c.in-Open.line) c.turn_of-turn.result c.segment_star.result
    c.in-Open.is turn
    c.in_ok-m-in-Open.ensures.within.within c.segment_star.ensures.answer

-- ---- what is counted, and want of memory
pub returns-in-Point-clause-spends : goal.returns-in-Point-clause-spends
returns-in-Point-clause-spends g c =
    let f = c.args.f.now in
    let e = c.args.e.now in
    let call = c.point_star in
    let old = c.args.steps.now in
    let turn = c.turn_of-turn.ensures ∙ ap (λ t. turn_of (copies_of t e)) c.tail.ensures.tail in
    let work : turn_work c.turn_of-turn.result ≡ part_work (part_of f.tail e) = ap turn_work turn ∙ turn_works (copies_of f.tail e) in
    let most : call.new.steps ≤ old + turn_work c.turn_of-turn.result = (call.ensures.spends.counts (turn_work c.turn_of-turn.result) refl).most in
    spends_as call.ensures.spends (part_work (part_of f.tail e)) work
    (λ told. part_wants f e (Point c.in-Point.x c.in-Point.v) c.turn_of-turn.result (call.new.steps - old) c.in-Point.is turn (omega (arith, work, most)) tt)

pub returns-in_err-m-in-Open-clause-spends : goal.returns-in_err-m-in-Open-clause-spends
returns-in_err-m-in-Open-clause-spends g c =
    let r = c.from_residual in
    let p = err_from_is_err_and r.result r.ensures.1 in
    spends_stopped r.result p.0 p.1
    (λ lack n none. segment_wants c.args.f.now c.args.e.now (Open c.in-Open.from c.in-Open.to c.in-Open.line) c.in_err-m-in-Open.field-0.0 n
    c.in-Open.is c.in_err-m-in-Open.ensures.over (sym p.2 ∙ lack) none)

pub returns-in_ok-m-in-Open-clause-spends : goal.returns-in_ok-m-in-Open-clause-spends
returns-in_ok-m-in-Open-clause-spends g c =
    let f = c.args.f.now in
    let e = c.args.e.now in
    let call = c.segment_star in
    let old = c.args.steps.now in
    let turn = c.turn_of-turn.ensures ∙ ap (λ t. turn_of (copies_of t e)) c.tail.ensures.tail in
    let work : turn_work c.turn_of-turn.result ≡ part_work (part_of f.tail e) = ap turn_work turn ∙ turn_works (copies_of f.tail e) in
    let most : call.new.steps ≤ old + turn_work c.turn_of-turn.result = (call.ensures.spends.counts (turn_work c.turn_of-turn.result) refl).most in
    spends_as call.ensures.spends (part_work (part_of f.tail e)) work
    (λ told. part_wants f e (Open c.in-Open.from c.in-Open.to c.in-Open.line) c.turn_of-turn.result (call.new.steps - old) c.in-Open.is turn (omega (arith, work, most)) c.in_ok-m-in-Open.ensures.within.within)
