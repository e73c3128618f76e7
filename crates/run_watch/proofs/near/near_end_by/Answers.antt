use Rattle.std.proofs.Common.{sym, subst}
use Rattle.run_watch.specs.NearWindows.{IsLeast, IsNearEndBy, IsNearEnd}
use Rattle.run_watch.proofs.LeastTimes.{least_segment, least_segments}
use Rattle.run_watch.proofs.near.near_end_by.Goals as goal

pub loop-g-init : goal.loop-g-init
loop-g-init c = λ t h. let (g, has, is) = h in has

pub loop-g-preserved : goal.loop-g-preserved
loop-g-preserved c =
    let ws = c.args.works.now in
    let s = c.args.s.now in
    let p = c.args.p.now in
    let g = c.g-item.result in
    subst (IsLeast (IsNearEndBy _ ws s p)) (sym c.earlier_time-least.ensures)
    (least_segment (IsNearEnd ws s p) c.args.segments.now c.loop-g.g-index g c.loop-g.least c.near_end.result c.loop-g-test.true c.g-item.is c.loop-g.invariant c.near_end.ensures)

pub returns : goal.returns
returns c = least_segments (IsNearEnd c.args.works.now c.args.s.now c.args.p.now) c.args.segments.now c.loop-g.g-index c.loop-g.least c.loop-g-test.false c.loop-g.invariant
