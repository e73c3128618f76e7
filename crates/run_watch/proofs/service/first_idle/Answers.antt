use Rattle.std.proofs.Common.{◌∙◌, List, pos, refl, sym, subst, ap, true≢false}
use Rattle.rational.specs.Rational.{ℚ, int, ◌≤ℚ◌, ◌<ℚ◌}
use Rattle.rational.proofs.Laws.{le_of_not_lt}
use Rattle.run_watch.specs.Watching.{RiseFrom, turns}
use Rattle.run_watch.specs.WatchTimes.{HaveSameTimes}
use Rattle.run_watch.proofs.NearWindows.{stretches_read}
use Rattle.run_watch.proofs.HeldTimes.{leaves_read, arrivals_read, stops_in_order, no_time}
use Rattle.run_watch.proofs.service.first_idle.Goals as goal

pub returns-then-not-is_less : goal.returns-then-not-is_less
returns-then-not-is_less c = λ server V S M.
    let late : c.args.w.now.end ≤ℚ int (pos 0) = subst (λ z. c.args.w.now.end ≤ℚ z) c.zero.ensures (le_of_not_lt (λ h. true≢false (sym (c.if-not-is_less.ensures.less.1 h)))) in
    λ a b idle. absurd (no_time server V c.args.w.now c.args.curve.now S late a b idle)

pub stops_of-requires : goal.stops_of-requires
stops_of-requires c = leaves_read c.args.w.now c.args.curve.now c.requires

pub stretches_of-requires-clause-reads : goal.stretches_of-requires-clause-reads
stretches_of-requires-clause-reads c = arrivals_read c.args.w.now c.args.curve.now c.requires

pub stretches_of-requires-clause-rise : goal.stretches_of-requires-clause-rise
stretches_of-requires-clause-rise c = (int (pos 0), stops_in_order c.args.w.now c.args.curve.now c.deref.result.now c.requires (c.deref.ensures.value ∙ c.in_ok-stops.ensures))

pub first_along-requires-clause-some : goal.first_along-requires-clause-some
first_along-requires-clause-some c = subst (λ z. z <ℚ c.args.w.now.end) c.zero.ensures (c.if-not-is_less.ensures.less.0 refl)

pub first_along-requires-clause-along : goal.first_along-requires-clause-along
first_along-requires-clause-along c =
    stretches_read c.args.w.now c.deref-4.result.now _ _ _ c.deref-4.ensures.value c.in_ok-stretches.ensures c.deref.ensures.value c.in_ok-stops.ensures

pub first_along-requires-clause-turned : goal.first_along-requires-clause-turned
first_along-requires-clause-turned c =
    c.deref-5.ensures.value ∙ c.in_ok-turns.ensures
    ∙ ap (turns c.args.w.now) (stretches_read c.args.w.now c.deref-2.result.now _ _ _ c.deref-2.ensures.value c.in_ok-stretches.ensures c.deref.ensures.value c.in_ok-stops.ensures)

pub first_along-requires-clause-same : goal.first_along-requires-clause-same
first_along-requires-clause-same c =
    subst (HaveSameTimes c.deref-5.result.now) (sym c.deref-6.ensures.value)
    (subst (λ (ts : List ℚ). HaveSameTimes ts c.in_ok-sorted.sorted.items) (c.deref-3.ensures.value ∙ sym c.deref-5.ensures.value) c.in_ok-sorted.ensures.same)

pub first_along-requires-clause-rise : goal.first_along-requires-clause-rise
first_along-requires-clause-rise c = subst (λ (ts : List ℚ). (from : ℚ) × RiseFrom from ts) (sym c.deref-6.ensures.value) c.in_ok-sorted.ensures.rise

pub returns : goal.returns
returns c = c.first_along.ensures
