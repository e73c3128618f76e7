use Rattle.std.proofs.Common.{[], ◌∷◌, sym, subst}
use Rattle.run_watch.specs.FirstEnds.{FitsMarks}
use Rattle.run_watch.specs.WatchTimes.{StartsBy, StartsTo}
use Rattle.run_watch.specs.NearWindows.{IsLeast}
use Rattle.run_watch.proofs.LeastTimes.{least_segment, least_segments}
use Rattle.run_watch.proofs.ShortMarks.{segment_at}
use Rattle.run_watch.proofs.windows.first_start.Goals as goal

pub loop-s-init : goal.loop-s-init
loop-s-init c = λ t h. let (s, has, is) = h in has

pub first_start_by-requires-clause-fits : goal.first_start_by-requires-clause-fits
first_start_by-requires-clause-fits c = segment_at (FitsMarks c.args.points.now) c.args.segments.now c.loop-s.s-index c.s-item.result c.requires.fits c.loop-s-test.true c.s-item.is

pub first_start_by-requires-clause-b : goal.first_start_by-requires-clause-b
first_start_by-requires-clause-b c = segment_at (FitsMarks (c.args.b.now ∷ [])) c.args.segments.now c.loop-s.s-index c.s-item.result c.requires.b c.loop-s-test.true c.s-item.is

pub loop-s-preserved : goal.loop-s-preserved
loop-s-preserved c =
    subst (IsLeast (StartsTo c.args.points.now c.args.b.now _)) (sym c.earlier_time-first.ensures)
    (least_segment (StartsBy c.args.points.now c.args.b.now) c.args.segments.now c.loop-s.s-index c.s-item.result c.loop-s.first c.first_start_by.result c.loop-s-test.true c.s-item.is c.loop-s.invariant c.first_start_by.ensures)

pub returns : goal.returns
returns c = least_segments (StartsBy c.args.points.now c.args.b.now) c.args.segments.now c.loop-s.s-index c.loop-s.first c.loop-s-test.false c.loop-s.invariant
