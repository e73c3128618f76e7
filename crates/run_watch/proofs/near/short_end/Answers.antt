use Rattle.std.proofs.Common.{◌≡◌, ◌<◌, ◌≤◌, ◌∙◌, length, map, arith, refl, sym, subst, Some}
use Rattle.rational.specs.Rational.{ℚ}
use Rattle.flow_watch.specs.watch_laws.Shorts.{EachPoint}
use Rattle.run_watch.specs.WatchTimes.{point_at}
use Rattle.run_watch.specs.IdleWindows.{IsShortWindow}
use Rattle.run_watch.specs.NearWindows.{IsLeast, IsNearEndOf, EndsShort}
use Rattle.run_watch.proofs.LeastTimes.{least_both, least_other}
use Rattle.run_watch.proofs.NearWindows.{points_fit, points_at, near_as}
use Rattle.run_watch.proofs.SortedPoints.{rise_of, least_end, no_end, first_end_of}
use Rattle.run_watch.proofs.near.short_end.Goals as goal

pub first_end-requires-clause-rise : goal.first_end-requires-clause-rise
first_end-requires-clause-rise c = rise_of c.args.works.now c.args.own.now c.deref.result.now (c.deref.ensures.value ∙ c.in_ok-points.ensures) c.requires.rise

pub first_end-requires-clause-ends : goal.first_end-requires-clause-ends
first_end-requires-clause-ends c = rise_of c.args.works.now c.args.own.now c.deref-2.result.now (c.deref-2.ensures.value ∙ c.in_ok-points.ensures) c.requires.rise

pub first_end-requires-clause-fits : goal.first_end-requires-clause-fits
first_end-requires-clause-fits c =
    points_fit c.args.segments.now c.args.segments.now c.args.works.now c.args.own.now c.deref.result.now refl (c.deref.ensures.value ∙ c.in_ok-points.ensures) c.requires.segments c.requires.times

pub first_end-requires-clause-keys : goal.first_end-requires-clause-keys
first_end-requires-clause-keys c =
    points_fit c.args.segments.now c.args.segments.now c.args.works.now c.args.own.now c.deref-2.result.now refl (c.deref-2.ensures.value ∙ c.in_ok-points.ensures) c.requires.segments c.requires.times

pub near_end_of-near-requires-clause-at : goal.near_end_of-near-requires-clause-at
near_end_of-near-requires-clause-at c =
    subst (EachPoint (λ p. p ≡ point_at c.args.works.now p.time)) (sym (c.deref-3.ensures.value ∙ c.in_ok-points.ensures))
    (points_at c.args.works.now c.args.own.now)

pub returns-then-place-len : goal.returns-then-place-len
returns-then-place-len c =
    let ss = c.args.segments.now in
    let ws = c.args.works.now in
    let own = c.args.own.now in
    let late : length c.in_ok-points.points.items ≤ c.in_ok-place.place = omega arith in
    let near = near_as ss c.args.segments.now ws c.args.s.now own c.deref-3.result.now c.near_end_of-near.result refl (c.deref-3.ensures.value ∙ c.in_ok-points.ensures) c.near_end_of-near.ensures in
    least_other (λ t. (a : ℚ) × IsShortWindow ss ws own a t) (IsNearEndOf ss ws c.args.s.now (map (point_at ws) own)) c.near_end_of-near.result
    (no_end ss c.args.segments.now ws own c.in_ok-points.points.items c.in_ok-place.place refl c.in_ok-points.ensures
    (first_end_of c.args.segments.now c.deref.result.now c.in_ok-points.points.items c.deref-2.result.now c.in_ok-points.points.items c.in_ok-place.place c.deref.ensures.value c.deref-2.ensures.value c.in_ok-place.ensures) late) near

pub returns : goal.returns
returns c =
    let ss = c.args.segments.now in
    let ws = c.args.works.now in
    let own = c.args.own.now in
    let inside : c.in_ok-place.place < length c.in_ok-points.points.items = omega arith in
    let near = near_as ss c.args.segments.now ws c.args.s.now own c.deref-3.result.now c.near_end_of-near.result refl (c.deref-3.ensures.value ∙ c.in_ok-points.ensures) c.near_end_of-near.ensures in
    subst (IsLeast (EndsShort ss ws c.args.s.now own)) (sym c.earlier_time.ensures)
    (least_both (λ t. (a : ℚ) × IsShortWindow ss ws own a t) (IsNearEndOf ss ws c.args.s.now (map (point_at ws) own)) (Some c.index.result.now.time) c.near_end_of-near.result
    (least_end ss c.args.segments.now ws own c.in_ok-points.points.items c.in_ok-place.place c.index.result.now refl c.requires.rise c.in_ok-points.ensures
    (first_end_of c.args.segments.now c.deref.result.now c.in_ok-points.points.items c.deref-2.result.now c.in_ok-points.points.items c.in_ok-place.place c.deref.ensures.value c.deref-2.ensures.value c.in_ok-place.ensures) inside c.index.ensures) near)
