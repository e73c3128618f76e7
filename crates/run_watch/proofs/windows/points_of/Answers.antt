use Rattle.std.proofs.Common.{ap}
use Rattle.rational.specs.Rational.{ℚ}
use Rattle.flow_watch.specs.declared.watch_laws.point.Point.{Point}
use Rattle.run_watch.specs.WatchTimes.{point_at}
use Rattle.run_watch.proofs.Gathered.{mapped, all_mapped}
use Rattle.run_watch.proofs.windows.points_of.Goals as goal

abbrev point : ℚ → ℚ → Point
point t work = record { time = t; work = work }

pub loop-t-preserved : goal.loop-t-preserved
loop-t-preserved c =
    let t = c.t-item.result in
    mapped (point_at c.args.works.now) t c.args.times.now c.loop-t.t-index (point t c.amount_at.result) c.loop-t.points.items c.push.new.self.items c.loop-t-test.true c.t-item.is
    (ap (point t) c.amount_at.ensures) c.in_ok-push.ensures.items c.loop-t.invariant

pub returns : goal.returns
returns c = all_mapped (point_at c.args.works.now) c.args.times.now c.loop-t.t-index c.loop-t.points.items c.loop-t-test.false c.loop-t.invariant
