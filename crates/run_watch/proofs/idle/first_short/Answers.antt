use Rattle.std.proofs.Common.{◌∙◌, ◌<◌, ◌≤◌, List, length, Some, None, refl, sym, subst, arith}
use Rattle.rational.specs.Rational.{ℚ, ◌≤ℚ◌}
use Rattle.run_watch.specs.Watching.{RiseFrom}
use Rattle.run_watch.specs.WatchTimes.{watched_from, HaveSameTimes}
use Rattle.run_watch.specs.IdleWindows.{TimeFits}
use Rattle.run_watch.proofs.ShortWindows.{fits_one}
use Rattle.run_watch.proofs.SortedPoints.{each_same, each_time_from, each_time_among, rise_of, fits_of, reads_of, none_short, first_short, some_start, first_end_of, start_of, are_ends, times_one}
use Rattle.run_watch.proofs.ShortEnds.{upto_end}
use Rattle.run_watch.proofs.idle.first_short.Goals as goal

abbrev InOrder : List ℚ → Type 0
InOrder ts = (from : ℚ) × RiseFrom from ts

pub points_of-requires-clause-fits : goal.points_of-requires-clause-fits
points_of-requires-clause-fits c =
    let xs = watched_from c.args.s.now c.args.pieces.now c.args.turns.now in
    let ts = c.deref.result.now in
    let same = subst (HaveSameTimes xs) (sym c.deref.ensures.value) c.in_ok-times.ensures.same in
    reads_of c.args.segments.now c.args.works.now ts (each_same (TimeFits c.args.segments.now c.args.works.now) xs ts same c.requires.times)

pub turns_in-late-requires : goal.turns_in-late-requires
turns_in-late-requires c = subst InOrder (sym c.deref-2.ensures.value) c.in_ok-times.ensures.rise

pub points_of-requires-2-clause-fits : goal.points_of-requires-2-clause-fits
points_of-requires-2-clause-fits c =
    let xs = watched_from c.args.s.now c.args.pieces.now c.args.turns.now in
    let ts = c.deref-2.result.now in
    let same = subst (HaveSameTimes xs) (sym c.deref-2.ensures.value) c.in_ok-times.ensures.same in
    let fits = each_same (TimeFits c.args.segments.now c.args.works.now) xs ts same c.requires.times in
    let late = c.turns_in-late.result.now in
    reads_of c.args.segments.now c.args.works.now late (each_time_from (TimeFits c.args.segments.now c.args.works.now) late (λ t m. each_time_among (TimeFits c.args.segments.now c.args.works.now) ts t fits (c.turns_in-late.ensures.holds.are t m)))

pub first_end-requires-clause-rise : goal.first_end-requires-clause-rise
first_end-requires-clause-rise c =
    let rise = subst InOrder (sym c.deref.ensures.value) c.in_ok-times.ensures.rise in
    rise_of c.args.works.now c.deref.result.now c.deref-3.result.now (c.deref-3.ensures.value ∙ c.in_ok-points.ensures) rise

pub first_end-requires-clause-ends : goal.first_end-requires-clause-ends
first_end-requires-clause-ends c = rise_of c.args.works.now c.turns_in-late.result.now c.deref-4.result.now (c.deref-4.ensures.value ∙ c.in_ok-ends.ensures) c.turns_in-late.ensures.rise

pub first_end-requires-clause-fits : goal.first_end-requires-clause-fits
first_end-requires-clause-fits c =
    let xs = watched_from c.args.s.now c.args.pieces.now c.args.turns.now in
    let ts = c.deref.result.now in
    let same = subst (HaveSameTimes xs) (sym c.deref.ensures.value) c.in_ok-times.ensures.same in
    fits_of c.args.works.now ts c.args.segments.now c.deref-3.result.now (c.deref-3.ensures.value ∙ c.in_ok-points.ensures) c.requires.segments (each_same (TimeFits c.args.segments.now c.args.works.now) xs ts same c.requires.times)

pub first_end-requires-clause-keys : goal.first_end-requires-clause-keys
first_end-requires-clause-keys c =
    let xs = watched_from c.args.s.now c.args.pieces.now c.args.turns.now in
    let ts = c.deref-2.result.now in
    let same = subst (HaveSameTimes xs) (sym c.deref-2.ensures.value) c.in_ok-times.ensures.same in
    let fits = each_same (TimeFits c.args.segments.now c.args.works.now) xs ts same c.requires.times in
    let late = c.turns_in-late.result.now in
    fits_of c.args.works.now late c.args.segments.now c.deref-4.result.now (c.deref-4.ensures.value ∙ c.in_ok-ends.ensures) c.requires.segments
    (each_time_from (TimeFits c.args.segments.now c.args.works.now) late (λ t m. each_time_among (TimeFits c.args.segments.now c.args.works.now) ts t fits (c.turns_in-late.ensures.holds.are t m)))

pub returns-then-place-len : goal.returns-then-place-len
returns-then-place-len c = λ late_all.
    let xs = watched_from c.args.s.now c.args.pieces.now c.args.turns.now in
    let ts = c.deref-2.result.now in
    let ps = c.deref-3.result.now in
    let es = c.in_ok-ends.ends.items in
    let same = subst (HaveSameTimes xs) (sym c.deref-2.ensures.value) c.in_ok-times.ensures.same in
    let far : length es ≤ c.in_ok-place.place = omega arith in
    let ends = are_ends c.args.segments.now c.args.works.now c.args.s.now c.args.after xs ts c.turns_in-late.result.now ps es same
    (c.deref-3.ensures.value ∙ c.in_ok-points.ensures ∙ times_one c.args.works.now c.deref.result.now ts (c.deref.ensures.value ∙ sym c.deref-2.ensures.value)) c.in_ok-ends.ensures c.turns_in-late.ensures.holds
    (each_time_from (λ t. t ≤ℚ c.args.s.now.end) xs (λ t m. upto_end c.args.s.now c.args.pieces.now c.args.turns.now t m)) late_all in
    none_short c.args.segments.now c.args.works.now xs ts c.turns_in-late.result.now ps es c.in_ok-place.place ends
    (first_end_of c.args.segments.now ps ps c.deref-4.result.now es c.in_ok-place.place refl c.deref-4.ensures.value c.in_ok-place.ensures) far

pub first_start-requires-clause-rise : goal.first_start-requires-clause-rise
first_start-requires-clause-rise c =
    let rise = subst InOrder (sym c.deref.ensures.value) c.in_ok-times.ensures.rise in
    rise_of c.args.works.now c.deref.result.now c.deref-5.result.now (c.deref-5.ensures.value ∙ c.in_ok-points.ensures) rise

pub first_start-requires-clause-fits : goal.first_start-requires-clause-fits
first_start-requires-clause-fits c =
    let xs = watched_from c.args.s.now c.args.pieces.now c.args.turns.now in
    let ts = c.deref.result.now in
    let same = subst (HaveSameTimes xs) (sym c.deref.ensures.value) c.in_ok-times.ensures.same in
    fits_of c.args.works.now ts c.args.segments.now c.deref-5.result.now (c.deref-5.ensures.value ∙ c.in_ok-points.ensures) c.requires.segments (each_same (TimeFits c.args.segments.now c.args.works.now) xs ts same c.requires.times)

pub first_start-requires-clause-b : goal.first_start-requires-clause-b
first_start-requires-clause-b c =
    let xs = watched_from c.args.s.now c.args.pieces.now c.args.turns.now in
    let ts = c.deref-2.result.now in
    let same = subst (HaveSameTimes xs) (sym c.deref-2.ensures.value) c.in_ok-times.ensures.same in
    let fits = each_same (TimeFits c.args.segments.now c.args.works.now) xs ts same c.requires.times in
    let late = c.turns_in-late.result.now in
    let near : c.in_ok-place.place < length c.in_ok-ends.ends.items = omega arith in
    fits_one c.args.segments.now c.in_ok-ends.ends.items c.in_ok-place.place c.index.result.now near c.index.ensures
    (fits_of c.args.works.now late c.args.segments.now c.in_ok-ends.ends.items c.in_ok-ends.ensures c.requires.segments
    (each_time_from (TimeFits c.args.segments.now c.args.works.now) late (λ t m. each_time_among (TimeFits c.args.segments.now c.args.works.now) ts t fits (c.turns_in-late.ensures.holds.are t m))))

pub returns-in-Some : goal.returns-in-Some
returns-in-Some c = λ late_all.
    let xs = watched_from c.args.s.now c.args.pieces.now c.args.turns.now in
    let ts = c.deref-2.result.now in
    let ps = c.deref-3.result.now in
    let es = c.in_ok-ends.ends.items in
    let same = subst (HaveSameTimes xs) (sym c.deref-2.ensures.value) c.in_ok-times.ensures.same in
    let near : c.in_ok-place.place < length es = omega arith in
    let ends = are_ends c.args.segments.now c.args.works.now c.args.s.now c.args.after xs ts c.turns_in-late.result.now ps es same
    (c.deref-3.ensures.value ∙ c.in_ok-points.ensures ∙ times_one c.args.works.now c.deref.result.now ts (c.deref.ensures.value ∙ sym c.deref-2.ensures.value)) c.in_ok-ends.ensures c.turns_in-late.ensures.holds
    (each_time_from (λ t. t ≤ℚ c.args.s.now.end) xs (λ t m. upto_end c.args.s.now c.args.pieces.now c.args.turns.now t m)) late_all in
    first_short c.args.segments.now c.args.works.now xs ts c.turns_in-late.result.now ps es c.in_ok-place.place c.in-Some.start c.index.result.now ends c.turns_in-late.ensures.rise
    (first_end_of c.args.segments.now ps ps c.deref-4.result.now es c.in_ok-place.place refl c.deref-4.ensures.value c.in_ok-place.ensures) near c.index.ensures
    (start_of c.args.segments.now c.deref-5.result.now ps c.index.result.now c.index.result.now c.first_start.result (Some c.in-Some.start) (c.deref-5.ensures.value ∙ sym c.deref-3.ensures.value) refl c.in-Some.is c.first_start.ensures)

pub returns : goal.returns
returns c = λ late_all.
    let ps = c.deref-3.result.now in
    let es = c.in_ok-ends.ends.items in
    let near : c.in_ok-place.place < length es = omega arith in
    absurd (some_start c.args.segments.now ps es c.in_ok-place.place c.index.result.now
    (first_end_of c.args.segments.now ps ps c.deref-4.result.now es c.in_ok-place.place refl c.deref-4.ensures.value c.in_ok-place.ensures) near c.index.ensures
    (start_of c.args.segments.now c.deref-5.result.now ps c.index.result.now c.index.result.now c.first_start.result None (c.deref-5.ensures.value ∙ sym c.deref-3.ensures.value) refl c.in-None.is c.first_start.ensures))
