use Rattle.std.proofs.Common.{◌≡◌, ◌∙◌, Option, sym, subst, ap, inl}
use Rattle.std.proofs.lemmas.Result.{IfOk-weaker}
use Rattle.rational.specs.Rational.{ℚ, ◌-ℚ◌}
use Rattle.upp_curve.specs.Unrolled.{unroll}
use Rattle.upp_normal.specs.Unrolling.{IsOperandTo}
use Rattle.flow_watch.specs.watch_laws.Segments.{segments}
use Rattle.run_watch.specs.Ramps.{AreRamps}
use Rattle.run_watch.specs.Reaches.{within_reach}
use Rattle.run_watch.specs.WatchTimes.{watched_from}
use Rattle.run_watch.specs.IdleWindows.{FindsShort}
use Rattle.run_watch.specs.Searches.{segments_near, FindsIn}
use Rattle.run_watch.proofs.FirstIdle.{times_as, gaps_as}
use Rattle.run_watch.proofs.HeldSizes.{times_differ}
use Rattle.run_watch.proofs.HeldTimes.{operand_to, moves}
use Rattle.run_watch.proofs.NearWindows.{stretch_stands, end_some, length_operand, near_segments, early_segments, early_times, early_turns, clear_as}
use Rattle.run_watch.proofs.ShortEnds.{end_within, recurs, found_in_cut, looks_clear, looks_short, near_watched_times}
use Rattle.run_watch.proofs.CutStretches.{none_ends}
use Rattle.run_watch.proofs.idle.first_in.Goals as goal

pub difference-requires : goal.difference-requires
difference-requires c =
    let h = c.requires.held in
    let S = stretch_stands c.args.w.now c.args.curve.now c.args.s.now c.args.own.now c.args.turns.now h c.requires.stretch in
    times_differ h.sizes c.args.w.now.end c.args.s.now.end c.args.s.now.start h.limited S.last S.start

pub unrolled-requires : goal.unrolled-requires
unrolled-requires c =
    subst (λ (t : ℚ). IsOperandTo t c.args.curve.now) (sym c.difference.ensures)
    (length_operand c.args.w.now c.args.curve.now c.args.s.now c.args.own.now c.args.turns.now c.requires.held c.requires.stretch)

pub short_end-requires-clause-ramps : goal.short_end-requires-clause-ramps
short_end-requires-clause-ramps c = let h = c.requires.held in subst AreRamps (sym c.deref-3.ensures.value) h.works.ramps

pub short_end-requires-clause-rise : goal.short_end-requires-clause-rise
short_end-requires-clause-rise c = let L = c.requires.stretch in L.rise

pub short_end-requires-clause-segments : goal.short_end-requires-clause-segments
short_end-requires-clause-segments c =
    let reach = c.reach_of-reach.result in
    let ns_is : c.deref.result.now ≡ unroll c.args.curve.now (c.args.s.now.end -ℚ c.args.s.now.start) = c.deref.ensures.value ∙ c.in_ok-near.ensures ∙ ap (unroll c.args.curve.now) c.difference.ensures in
    let es_is : c.deref-4.result.now ≡ segments_near c.args.curve.now c.args.s.now reach = c.deref-4.ensures.value ∙ c.in_ok-early.ensures ∙ ap (within_reach reach) (c.deref-2.ensures.value ∙ c.in_ok-segments.ensures ∙ ap segments ns_is) in
    early_segments c.args.w.now c.args.curve.now c.args.s.now c.args.own.now c.args.turns.now reach c.deref-4.result.now c.requires.held c.requires.stretch es_is

pub short_end-requires-clause-times : goal.short_end-requires-clause-times
short_end-requires-clause-times c =
    let reach = c.reach_of-reach.result in
    let ns_is : c.deref.result.now ≡ unroll c.args.curve.now (c.args.s.now.end -ℚ c.args.s.now.start) = c.deref.ensures.value ∙ c.in_ok-near.ensures ∙ ap (unroll c.args.curve.now) c.difference.ensures in
    let es_is : c.deref-4.result.now ≡ segments_near c.args.curve.now c.args.s.now reach = c.deref-4.ensures.value ∙ c.in_ok-early.ensures ∙ ap (within_reach reach) (c.deref-2.ensures.value ∙ c.in_ok-segments.ensures ∙ ap segments ns_is) in
    early_times c.args.w.now c.args.curve.now c.args.s.now c.args.own.now c.args.turns.now reach c.deref-4.result.now c.deref-3.result.now c.requires.held c.requires.stretch es_is c.deref-3.ensures.value

pub short_end-requires-clause-near : goal.short_end-requires-clause-near
short_end-requires-clause-near c =
    let reach = c.reach_of-reach.result in
    let ns_is : c.deref.result.now ≡ unroll c.args.curve.now (c.args.s.now.end -ℚ c.args.s.now.start) = c.deref.ensures.value ∙ c.in_ok-near.ensures ∙ ap (unroll c.args.curve.now) c.difference.ensures in
    let es_is : c.deref-4.result.now ≡ segments_near c.args.curve.now c.args.s.now reach = c.deref-4.ensures.value ∙ c.in_ok-early.ensures ∙ ap (within_reach reach) (c.deref-2.ensures.value ∙ c.in_ok-segments.ensures ∙ ap segments ns_is) in
    early_turns c.args.w.now c.args.curve.now c.args.s.now c.args.own.now c.args.turns.now reach c.deref-4.result.now c.deref-3.result.now c.requires.held c.requires.stretch es_is c.deref-3.ensures.value

pub returns-in-None : goal.returns-in-None
returns-in-None c = λ server V S M.
    let reach = c.reach_of-reach.result in
    let ns_is : c.deref.result.now ≡ unroll c.args.curve.now (c.args.s.now.end -ℚ c.args.s.now.start) = c.deref.ensures.value ∙ c.in_ok-near.ensures ∙ ap (unroll c.args.curve.now) c.difference.ensures in
    let es_is : c.deref-4.result.now ≡ segments_near c.args.curve.now c.args.s.now reach = c.deref-4.ensures.value ∙ c.in_ok-early.ensures ∙ ap (within_reach reach) (c.deref-2.ensures.value ∙ c.in_ok-segments.ensures ∙ ap segments ns_is) in
    inl (clear_as c.args.w.now c.args.curve.now c.args.s.now c.args.own.now c.deref-3.result.now reach c.deref-4.result.now c.deref-3.ensures.value es_is c.reach_of-reach.ensures
    (looks_clear c.deref-4.result.now c.deref-3.result.now c.args.s.now c.args.own.now c.in_ok-end.field-0 c.in-None.is c.in_ok-end.ensures))

pub unrolled-requires-2 : goal.unrolled-requires-2
unrolled-requires-2 c = operand_to c.args.w.now c.args.curve.now c.requires.held

pub first_short-requires-clause-ramps : goal.first_short-requires-clause-ramps
first_short-requires-clause-ramps c = let h = c.requires.held in subst AreRamps (sym c.deref-5.ensures.value) h.works.ramps

pub first_short-requires-clause-recurs : goal.first_short-requires-clause-recurs
first_short-requires-clause-recurs c =
    let L = c.requires.stretch in
    let reach = c.reach_of-reach.result in
    let ns = c.deref.result.now in
    let es_by : c.deref-4.result.now ≡ within_reach reach (segments ns) = c.deref-4.ensures.value ∙ c.in_ok-early.ensures ∙ ap (within_reach reach) (c.deref-2.ensures.value ∙ c.in_ok-segments.ensures) in
    let ends = looks_short reach ns c.deref-4.result.now c.deref-3.result.now c.args.s.now c.args.own.now c.in_ok-end.field-0 c.in-Some.end es_by c.in-Some.is c.in_ok-end.ensures in
    let inside = end_within (segments ns) c.deref-3.result.now c.args.s.now c.args.own.now c.args.turns.now c.in-Some.end L.holds ends in
    recurs c.args.w.now c.args.curve.now c.args.s.now c.args.own.now c.args.turns.now c.deref-6.result.now c.in-Some.end c.cycle_of-cycle.result c.requires.held L inside (c.deref-6.ensures.value ∙ c.in_ok-pieces.ensures) c.cycle_of-cycle.ensures

pub first_short-requires-clause-moves : goal.first_short-requires-clause-moves
first_short-requires-clause-moves c =
    let h = c.requires.held in
    let L = c.requires.stretch in
    let S = stretch_stands c.args.w.now c.args.curve.now c.args.s.now c.args.own.now c.args.turns.now h L in
    moves c.args.w.now c.args.curve.now c.args.turns.now c.deref-6.result.now h (end_some h.sizes c.args.w.now.end c.args.s.now S) L.turns_are (c.deref-6.ensures.value ∙ c.in_ok-pieces.ensures)

pub first_short-requires-clause-times : goal.first_short-requires-clause-times
first_short-requires-clause-times c =
    let L = c.requires.stretch in
    let reach = c.reach_of-reach.result in
    let ns = c.deref.result.now in
    let qs = c.deref-6.result.now in
    let es_by : c.deref-4.result.now ≡ within_reach reach (segments ns) = c.deref-4.ensures.value ∙ c.in_ok-early.ensures ∙ ap (within_reach reach) (c.deref-2.ensures.value ∙ c.in_ok-segments.ensures) in
    let ends = looks_short reach ns c.deref-4.result.now c.deref-3.result.now c.args.s.now c.args.own.now c.in_ok-end.field-0 c.in-Some.end es_by c.in-Some.is c.in_ok-end.ensures in
    let inside = end_within (segments ns) c.deref-3.result.now c.args.s.now c.args.own.now c.args.turns.now c.in-Some.end L.holds ends in
    let ns_is : c.deref.result.now ≡ unroll c.args.curve.now (c.args.s.now.end -ℚ c.args.s.now.start) = c.deref.ensures.value ∙ c.in_ok-near.ensures ∙ ap (unroll c.args.curve.now) c.difference.ensures in
    times_as (segments ns) c.deref-7.result.now c.args.w.now.works.items c.deref-5.result.now (watched_from record { start = c.args.s.now.start; end = c.in-Some.end } qs c.args.turns.now) (c.deref-7.ensures.value ∙ c.in_ok-segments.ensures) c.deref-5.ensures.value
    (near_watched_times c.args.w.now c.args.curve.now c.args.s.now c.args.own.now c.args.turns.now ns qs c.in-Some.end c.requires.held L inside ns_is (c.deref-6.ensures.value ∙ c.in_ok-pieces.ensures))

pub first_short-requires-clause-segments : goal.first_short-requires-clause-segments
first_short-requires-clause-segments c =
    let ns_is : c.deref.result.now ≡ unroll c.args.curve.now (c.args.s.now.end -ℚ c.args.s.now.start) = c.deref.ensures.value ∙ c.in_ok-near.ensures ∙ ap (unroll c.args.curve.now) c.difference.ensures in
    gaps_as (segments c.deref.result.now) c.deref-7.result.now (c.deref-7.ensures.value ∙ c.in_ok-segments.ensures)
    (near_segments c.args.w.now c.args.curve.now c.args.s.now c.args.own.now c.args.turns.now c.deref.result.now c.requires.held c.requires.stretch ns_is)

pub returns : goal.returns
returns c = λ server V S M.
    let w = c.args.w.now in
    let s = c.args.s.now in
    let own = c.args.own.now in
    let all = c.args.turns.now in
    let reach = c.reach_of-reach.result in
    let ns = c.deref.result.now in
    let es = c.deref-4.result.now in
    let qs = c.deref-6.result.now in
    let gs = c.deref-7.result.now in
    let end = c.in-Some.end in
    let ns_is : c.deref.result.now ≡ unroll c.args.curve.now (c.args.s.now.end -ℚ c.args.s.now.start) = c.deref.ensures.value ∙ c.in_ok-near.ensures ∙ ap (unroll c.args.curve.now) c.difference.ensures in
    let gs_is : c.deref-7.result.now ≡ segments c.deref.result.now = c.deref-7.ensures.value ∙ c.in_ok-segments.ensures in
    let es_by : c.deref-4.result.now ≡ within_reach reach (segments c.deref.result.now) = c.deref-4.ensures.value ∙ c.in_ok-early.ensures ∙ ap (within_reach reach) (c.deref-2.ensures.value ∙ c.in_ok-segments.ensures) in
    let es_is : c.deref-4.result.now ≡ segments_near c.args.curve.now c.args.s.now reach = c.deref-4.ensures.value ∙ c.in_ok-early.ensures ∙ ap (within_reach reach) (c.deref-2.ensures.value ∙ c.in_ok-segments.ensures ∙ ap segments ns_is) in
    let ends = looks_short reach ns es c.deref-3.result.now s own c.in_ok-end.field-0 end es_by c.in-Some.is c.in_ok-end.ensures in
    IfOk-weaker c.first_short.result (FindsShort gs c.deref-5.result.now (watched_from record { start = s.start; end = end } qs all)) (FindsIn w c.args.curve.now s own all)
    (λ (o : Option (ℚ × ℚ)) (k : FindsShort gs c.deref-5.result.now (watched_from record { start = s.start; end = end } qs all) o).
    found_in_cut w c.args.curve.now s own all c.deref-5.result.now c.deref-3.result.now ns qs gs end o c.requires.held c.requires.stretch M c.deref-5.ensures.value c.deref-3.ensures.value ns_is (c.deref-6.ensures.value ∙ c.in_ok-pieces.ensures) gs_is ends k)
    (c.first_short.ensures
    (none_ends server V w c.args.curve.now s own all c.deref-5.result.now c.deref-3.result.now ns qs gs es reach c.in_ok-end.field-0 end c.last_before-after.result c.requires.held c.requires.stretch S M c.deref-5.ensures.value c.deref-3.ensures.value ns_is gs_is
    es_is c.reach_of-reach.ensures c.in-Some.is c.in_ok-end.ensures c.last_before-after.ensures))
