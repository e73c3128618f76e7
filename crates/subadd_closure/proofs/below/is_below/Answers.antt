use Rattle.std.proofs.Common.{refl, sym, true≢false}
use Rattle.upp_curve.specs.Curve.{value_at}
use Rattle.curve_call.proofs.GapSizes.{stretch_fits}
use Rattle.curve_call.proofs.GapWalk.{before_first, walk_fewer, walk_time}
use Rattle.subadd_closure.proofs.BelowWalk.{BelowWalk, below_end, below_start, below_step, below_turn}
use Rattle.subadd_closure.proofs.below.is_below.Goals as goal

pub loop-end-init : goal.loop-end-init
loop-end-init c = below_start c.args.slow.now c.args.fast.now c.args.from c.args.end c.requires.window.3.before

pub stretch_at-low-requires : goal.stretch_at-low-requires
stretch_at-low-requires c =
    let (z, V, W, T) = c.requires.window in
    let B = c.loop-end.invariant in
    let h = before_first c.loop-end.t c.lesser-last.result c.args.end c.args.soon c.lesser-last.ensures (c.loop-end-test.ensures.less.0 refl) in
    (z, c.args.end, V, walk_time z c.args.slow.now c.args.fast.now c.args.from c.args.end c.loop-end.t B.gap V W T B.walk h)

pub stretch_at-high-requires : goal.stretch_at-high-requires
stretch_at-high-requires c =
    let (z, V, W, T) = c.requires.window in
    let B = c.loop-end.invariant in
    let h = before_first c.loop-end.t c.lesser-last.result c.args.end c.args.soon c.lesser-last.ensures (c.loop-end-test.ensures.less.0 refl) in
    (z, c.args.end, W, walk_time z c.args.slow.now c.args.fast.now c.args.from c.args.end c.loop-end.t B.gap V W T B.walk h)

pub stretch_gap-requires-clause-fits : goal.stretch_gap-requires-clause-fits
stretch_gap-requires-clause-fits c =
    let (z, V, W, T) = c.requires.window in
    let low = c.stretch_at-low.ensures in
    let high = c.stretch_at-high.ensures in
    let N = below_turn c.args.soon c.lesser-last.result c.earlier.result c.earlier-next.result c.loop-end.invariant c.lesser-last.ensures
    (c.loop-end-test.ensures.less.0 refl) low.goes low.times low.sizes high.goes high.times high.sizes c.earlier.ensures c.earlier-next.ensures in
    stretch_fits z c.args.end c.loop-end.t c.earlier-next.result c.stretch_at-low.result c.stretch_at-high.result (N.sizes z V W T) N.until.past

pub stretch_gap-requires-clause-some : goal.stretch_gap-requires-clause-some
stretch_gap-requires-clause-some c =
    let low = c.stretch_at-low.ensures in
    let high = c.stretch_at-high.ensures in
    let N = below_turn c.args.soon c.lesser-last.result c.earlier.result c.earlier-next.result c.loop-end.invariant c.lesser-last.ensures
    (c.loop-end-test.ensures.less.0 refl) low.goes low.times low.sizes high.goes high.times high.sizes c.earlier.ensures c.earlier-next.ensures in
    N.until.past

pub loop-end-preserved : goal.loop-end-preserved
loop-end-preserved c =
    let slow = c.args.slow.now in
    let fast = c.args.fast.now in
    let low = c.stretch_at-low.ensures in
    let high = c.stretch_at-high.ensures in
    let gap = c.stretch_gap in
    let N = below_turn c.args.soon c.lesser-last.result c.earlier.result c.earlier-next.result c.loop-end.invariant c.lesser-last.ensures
    (c.loop-end-test.ensures.less.0 refl) low.goes low.times low.sizes high.goes high.times high.sizes c.earlier.ensures c.earlier-next.ensures in
    below_step slow fast c.args.from c.args.end c.loop-end.t c.earlier-next.result c.stretch_at-low.result c.stretch_at-high.result gap.result
    c.loop-end.invariant N low.goes low.times high.goes high.times gap.ensures.value
    (gap.ensures.gap (value_at slow) (value_at fast) low.goes high.goes N.until.first N.until.second) (c.if-not-is_none_above.ensures refl)

pub loop-end-smaller : goal.loop-end-smaller
loop-end-smaller c =
    let slow = c.args.slow.now in
    let fast = c.args.fast.now in
    let B = c.loop-end.invariant in
    let P : BelowWalk slow fast c.args.from c.args.end c.earlier-next.result = loop-end-preserved c in
    let low = c.stretch_at-low.ensures in
    let high = c.stretch_at-high.ensures in
    let N = below_turn c.args.soon c.lesser-last.result c.earlier.result c.earlier-next.result B c.lesser-last.ensures
    (c.loop-end-test.ensures.less.0 refl) low.goes low.times low.sizes high.goes high.times high.sizes c.earlier.ensures c.earlier-next.ensures in
    walk_fewer slow fast c.args.from c.args.end c.loop-end.t c.earlier-next.result B.gap P.gap B.walk P.walk N.until.past

pub returns : goal.returns
returns c told =
    below_end c.args.slow.now c.args.fast.now c.args.from c.args.end c.args.soon c.lesser-last.result c.loop-end.t c.loop-end.invariant c.lesser-last.ensures
    (λ h. true≢false (sym (c.loop-end-test.ensures.less.1 h))) c.requires.late
