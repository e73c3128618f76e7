use Rattle.std.proofs.Common.{refl, sym, subst}
use Rattle.run_watch.specs.NearWindows.{IsLeast, IsEndBefore, IsEndAfter, IsNearEnd}
use Rattle.run_watch.proofs.LeastTimes.{least_both}
use Rattle.run_watch.proofs.NearWindows.{no_near_end}
use Rattle.run_watch.proofs.near.near_end.Goals as goal

pub returns-then-asks_nothing : goal.returns-then-asks_nothing
returns-then-asks_nothing c =
    no_near_end c.args.works.now c.args.s.now c.args.p.now c.args.g.now (c.if-asks_nothing.ensures refl) c.requires.at

pub returns : goal.returns
returns c =
    let ws = c.args.works.now in
    let s = c.args.s.now in
    let p = c.args.p.now in
    let g = c.args.g.now in
    subst (IsLeast (IsNearEnd ws s p g)) (sym c.earlier_time.ensures)
    (least_both (IsEndBefore ws s p g) (IsEndAfter ws s p g) c.end_before.result c.end_after.result c.end_before.ensures
    c.end_after.ensures)
