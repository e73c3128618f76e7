use Rattle.std.proofs.Common.{◌≡◌, refl, sym, subst, arith}
use Rattle.rational.specs.Rational.{◌+ℚ◌}
use Rattle.rational.specs.Ratio.{SumFits}
use Rattle.flow_watch.specs.declared.watch_laws.point.Point.{Point}
use Rattle.run_watch.proofs.ShortMarks.{late_more, each_at, middle_inside, none_late}
use Rattle.run_watch.proofs.shorts.far_by.Goals as goal

pub loop-low-init : goal.loop-low-init
loop-low-init c = (omega arith, none_late c.args.rule.now c.args.t c.args.points.now)

pub sum-requires : goal.sum-requires
sum-requires c =
    subst (λ (p : Point). SumFits p.time c.args.rule.now.least) c.index-points-middle.is
    (each_at (λ p. SumFits p.time c.args.rule.now.least) c.args.points.now _ c.index-points-middle.result c.requires.fits
    (middle_inside c.loop-low.low c.loop-low.high _ _ c.loop-low-test.true c.loop-low.invariant.0 refl) c.index-points-middle.is)

pub loop-low-preserved-then-is_less : goal.loop-low-preserved-then-is_less
loop-low-preserved-then-is_less c =
    let inside = middle_inside c.loop-low.low c.loop-low.high _ _ c.loop-low-test.true c.loop-low.invariant.0 refl in
    let same = subst (λ (p : Point). c.sum.result ≡ p.time +ℚ c.args.rule.now.least) (sym c.index-points-middle.is) c.sum.ensures in (
      omega (arith, inside),
      late_more c.args.rule.now c.args.t c.sum.result c.args.points.now _ c.index-points-middle.result c.requires.rise c.index-points-middle.is inside same (c.if-is_less.ensures.less.0 refl),
    )
