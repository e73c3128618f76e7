use Rattle.std.proofs.Common.{refl, sym, subst, true≢false}
use Rattle.upp_curve.specs.Curve.{value_at}
use Rattle.curve_call.specs.GapSteps.{GapStands}
use Rattle.curve_call.proofs.GapSizes.{stretch_fits, stretch_stands}
use Rattle.curve_call.proofs.GapWalk.{GapWalk, walk_time, walk_start, walk_step, walk_fewer, before_first, walk_until, stretch_sizes, next_found, next_past}
use Rattle.curve_call.proofs.gaps.gap_until.Goals as goal

pub loop-end-init : goal.loop-end-init
loop-end-init c = walk_start c.args.f.now c.args.g.now c.args.from c.args.end c.requires.3.before

pub stretch-slow-requires : goal.stretch-slow-requires
stretch-slow-requires c =
    let w = c.requires in
    (w.0, c.args.end, w.1, walk_time w.0 c.args.f.now c.args.g.now c.args.from c.args.end c.loop-end.t c.loop-end.gap w.1 w.2 w.3 c.loop-end.invariant (before_first c.loop-end.t c.lesser-last.result c.args.end c.args.soon c.lesser-last.ensures (c.loop-end-test.ensures.less.0 refl)))

pub stretch-fast-requires : goal.stretch-fast-requires
stretch-fast-requires c =
    let w = c.requires in
    (w.0, c.args.end, w.2, walk_time w.0 c.args.f.now c.args.g.now c.args.from c.args.end c.loop-end.t c.loop-end.gap w.1 w.2 w.3 c.loop-end.invariant (before_first c.loop-end.t c.lesser-last.result c.args.end c.args.soon c.lesser-last.ensures (c.loop-end-test.ensures.less.0 refl)))

pub stretch_gap-requires-clause-fits : goal.stretch_gap-requires-clause-fits
stretch_gap-requires-clause-fits c =
    let w = c.requires in
    let h = before_first c.loop-end.t c.lesser-last.result c.args.end c.args.soon c.lesser-last.ensures (c.loop-end-test.ensures.less.0 refl) in
    let slow = c.stretch-slow.ensures in
    let fast = c.stretch-fast.ensures in
    let e = next_found c.args.end c.stretch-slow.result.next c.stretch-fast.result.next c.earlier.result c.earlier-next.result c.earlier.ensures c.earlier-next.ensures in
    let N = next_past c.args.end c.loop-end.t c.earlier-next.result c.stretch-slow.result.next c.stretch-fast.result.next h slow.goes.next fast.goes.next e in
    stretch_fits w.0 c.args.end c.loop-end.t c.earlier-next.result c.stretch-slow.result c.stretch-fast.result
    (stretch_sizes w.0 c.args.f.now c.args.g.now c.args.from c.args.end c.loop-end.t c.earlier-next.result c.loop-end.gap c.stretch-slow.result c.stretch-fast.result w.1 w.2 w.3 c.loop-end.invariant
    h slow.goes.next fast.goes.next slow.times fast.times (slow.sizes w.0 c.args.end w.1) (fast.sizes w.0 c.args.end w.2) e)
    N.past

pub stretch_gap-requires-clause-some : goal.stretch_gap-requires-clause-some
stretch_gap-requires-clause-some c =
    let h = before_first c.loop-end.t c.lesser-last.result c.args.end c.args.soon c.lesser-last.ensures (c.loop-end-test.ensures.less.0 refl) in
    let slow = c.stretch-slow.ensures in
    let fast = c.stretch-fast.ensures in
    let e = next_found c.args.end c.stretch-slow.result.next c.stretch-fast.result.next c.earlier.result c.earlier-next.result c.earlier.ensures c.earlier-next.ensures in
    let N = next_past c.args.end c.loop-end.t c.earlier-next.result c.stretch-slow.result.next c.stretch-fast.result.next h slow.goes.next fast.goes.next e in
    N.past

pub loop-end-preserved : goal.loop-end-preserved
loop-end-preserved c =
    let h = before_first c.loop-end.t c.lesser-last.result c.args.end c.args.soon c.lesser-last.ensures (c.loop-end-test.ensures.less.0 refl) in
    let slow = c.stretch-slow.ensures in
    let fast = c.stretch-fast.ensures in
    let e = next_found c.args.end c.stretch-slow.result.next c.stretch-fast.result.next c.earlier.result c.earlier-next.result c.earlier.ensures c.earlier-next.ensures in
    let N = next_past c.args.end c.loop-end.t c.earlier-next.result c.stretch-slow.result.next c.stretch-fast.result.next h slow.goes.next fast.goes.next e in
    let gap = c.stretch_gap.ensures.gap (value_at c.args.f.now) (value_at c.args.g.now) slow.goes fast.goes N.first N.second in
    subst (GapWalk c.args.f.now c.args.g.now c.args.from c.args.end c.earlier-next.result) (sym c.larger-gap.ensures)
    (walk_step c.args.f.now c.args.g.now c.args.from c.args.end c.loop-end.t c.earlier-next.result c.stretch-slow.result.next c.stretch-fast.result.next c.loop-end.gap c.stretch_gap.result
    c.loop-end.invariant h slow.goes.next fast.goes.next slow.times fast.times e gap
    (λ z V W T. subst (GapStands z) (sym c.stretch_gap.ensures.value) (stretch_stands z c.args.end c.loop-end.t c.earlier-next.result c.stretch-slow.result c.stretch-fast.result
    (stretch_sizes z c.args.f.now c.args.g.now c.args.from c.args.end c.loop-end.t c.earlier-next.result c.loop-end.gap c.stretch-slow.result c.stretch-fast.result
    V W T c.loop-end.invariant h slow.goes.next fast.goes.next slow.times fast.times (slow.sizes z c.args.end V) (fast.sizes z c.args.end W) e) N.past)))

pub loop-end-smaller : goal.loop-end-smaller
loop-end-smaller c =
    let h = before_first c.loop-end.t c.lesser-last.result c.args.end c.args.soon c.lesser-last.ensures (c.loop-end-test.ensures.less.0 refl) in
    let slow = c.stretch-slow.ensures in
    let fast = c.stretch-fast.ensures in
    let e = next_found c.args.end c.stretch-slow.result.next c.stretch-fast.result.next c.earlier.result c.earlier-next.result c.earlier.ensures c.earlier-next.ensures in
    let N = next_past c.args.end c.loop-end.t c.earlier-next.result c.stretch-slow.result.next c.stretch-fast.result.next h slow.goes.next fast.goes.next e in
    walk_fewer c.args.f.now c.args.g.now c.args.from c.args.end c.loop-end.t c.earlier-next.result c.loop-end.gap c.larger-gap.result c.loop-end.invariant (loop-end-preserved c) N.past

pub returns-clause-sizes : goal.returns-clause-sizes
returns-clause-sizes c = c.loop-end.invariant.sizes

pub returns-clause-gap : goal.returns-clause-gap
returns-clause-gap c =
    walk_until c.args.f.now c.args.g.now c.args.from c.args.end c.args.soon c.lesser-last.result c.loop-end.t c.loop-end.gap c.loop-end.invariant c.lesser-last.ensures
    (λ h. true≢false (sym (c.loop-end-test.ensures.less.1 h)))
