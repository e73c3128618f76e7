use Rattle.std.proofs.Common.{sym, subst}
use Rattle.run_watch.specs.NearWindows.{IsLeast, IsNearEndBy, IsNearEndOf}
use Rattle.run_watch.proofs.LeastTimes.{least_point, least_points}
use Rattle.run_watch.proofs.near.near_end_of.Goals as goal

pub loop-p-init : goal.loop-p-init
loop-p-init c = λ t h. let (p, has, is) = h in has

pub loop-p-preserved : goal.loop-p-preserved
loop-p-preserved c =
    let ws = c.args.works.now in
    let s = c.args.s.now in
    let gs = c.args.segments.now in
    subst (IsLeast (IsNearEndOf gs ws s _)) (sym c.earlier_time-least.ensures)
    (least_point (IsNearEndBy gs ws s) c.args.points.now c.loop-p.p-index c.p-item.result c.loop-p.least c.near_end_by.result c.loop-p-test.true c.p-item.is c.loop-p.invariant c.near_end_by.ensures)

pub returns : goal.returns
returns c = least_points (IsNearEndBy c.args.segments.now c.args.works.now c.args.s.now) c.args.points.now c.loop-p.p-index c.loop-p.least c.loop-p-test.false c.loop-p.invariant
