use Rattle.std.proofs.Common.{inl, inr, refl}
use Rattle.run_watch.proofs.SortedPoints.{among_at}
use Rattle.run_watch.proofs.idle.last_before.Goals as goal

pub loop-t-init : goal.loop-t-init
loop-t-init c = inl refl

pub loop-t-preserved : goal.loop-t-preserved
loop-t-preserved c = inr (among_at c.args.own.now c.loop-t.t-index c.t-item.result c.loop-t-test.true c.t-item.is, c.if-not-is_less.ensures.less.0 refl)

pub returns-then-not-is_less : goal.returns-then-not-is_less
returns-then-not-is_less c = c.loop-t.invariant

pub returns : goal.returns
returns c = c.loop-t.invariant
