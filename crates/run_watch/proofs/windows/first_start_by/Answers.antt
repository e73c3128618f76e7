use Rattle.std.proofs.Common.{refl, sym, true≢false}
use Rattle.flow_watch.specs.watch_laws.Shorts.{IsShortBy}
use Rattle.run_watch.proofs.ShortMarks.{starts_fit}
use Rattle.run_watch.proofs.ShortWindows.{points_push, first_by, none_by_reach, fits_at}
use Rattle.run_watch.proofs.windows.first_start_by.Goals as goal

pub is_short_by-requires-clause-a : goal.is_short_by-requires-clause-a
is_short_by-requires-clause-a c =
    fits_at c.args.s.now c.in_reach-starts.result.now c.loop-p.p-index c.p-item.result c.loop-p-test.true c.p-item.is
    (starts_fit c.args.s.now c.args.points.now c.in_reach-starts.result.now c.args.b.now.time c.args.b.now.time c.in_reach-starts.ensures c.requires.fits)

pub returns-then-is_short_by : goal.returns-then-is_short_by
returns-then-is_short_by c =
    first_by c.args.s.now c.args.points.now c.in_reach-starts.result.now c.loop-p.p-index c.p-item.result c.args.b.now c.in_reach-starts.ensures c.loop-p-test.true c.p-item.is c.loop-p.invariant (c.if-is_short_by.ensures.0 refl)

pub loop-p-preserved : goal.loop-p-preserved
loop-p-preserved c =
    points_push (λ p. IsShortBy c.args.s.now p c.args.b.now → ⊥) c.in_reach-starts.result.now c.loop-p.p-index c.p-item.result c.loop-p-test.true c.p-item.is c.loop-p.invariant
    (λ h. true≢false (sym (c.if-is_short_by.ensures.1 h)))

pub returns : goal.returns
returns c = none_by_reach c.args.s.now c.args.points.now c.in_reach-starts.result.now c.loop-p.p-index c.args.b.now c.in_reach-starts.ensures c.loop-p-test.false c.loop-p.invariant
