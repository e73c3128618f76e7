use Rattle.std.proofs.Common.{refl, sym, subst, arith}
use Rattle.flow_watch.specs.watch_laws.Marks.{IsPast, MostFits}
use Rattle.flow_watch.specs.declared.watch_laws.point.Point.{Point}
use Rattle.run_watch.proofs.ShortMarks.{past_more, each_at, middle_inside}
use Rattle.run_watch.proofs.shorts.past_by.Goals as goal

pub is_past-requires : goal.is_past-requires
is_past-requires c =
    subst (λ (p : Point). MostFits c.args.rule.now.most p.time) c.index-points-middle.is
    (each_at (λ p. MostFits c.args.rule.now.most p.time) c.args.points.now _ c.index-points-middle.result c.requires.fits
    (middle_inside c.loop-low.low c.loop-low.high _ _ c.loop-low-test.true c.loop-low.invariant.0 refl) c.index-points-middle.is)

pub loop-low-preserved-then-is_past : goal.loop-low-preserved-then-is_past
loop-low-preserved-then-is_past c =
    let inside = middle_inside c.loop-low.low c.loop-low.high _ _ c.loop-low-test.true c.loop-low.invariant.0 refl in
    let past = subst (λ (p : Point). IsPast c.args.rule.now.most p.time c.args.t) (sym c.index-points-middle.is) (c.if-is_past.ensures.0 refl) in (
      c.loop-low.invariant.0,
      omega (arith, inside),
      past_more c.args.rule.now.most c.args.t c.args.points.now _ c.index-points-middle.result c.requires.rise c.index-points-middle.is inside past,
    )

pub loop-low-preserved : goal.loop-low-preserved
loop-low-preserved c =
    let inside = middle_inside c.loop-low.low c.loop-low.high _ _ c.loop-low-test.true c.loop-low.invariant.0 refl in
    (omega (arith, inside), c.loop-low.invariant.1, c.loop-low.invariant.2)
