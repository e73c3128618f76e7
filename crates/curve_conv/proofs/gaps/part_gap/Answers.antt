use Rattle.std.specs.Prelude.{pos, Some, None, IfSome}
use Rattle.std.proofs.Common.{refl, sym, subst, true≢false}
use Rattle.rational.specs.Rational.{int}
use Rattle.rational.proofs.Laws.{le_refl}
use Rattle.rational.proofs.Grid.{whole_int}
use Rattle.upp_curve.specs.Curve.{value_at}
use Rattle.element_envelope.specs.ElementRoom.{WindowTime}
use Rattle.curve_call.specs.Gaps.{InWindow, IsGap}
use Rattle.curve_conv.specs.PartGaps.{ArePartValues, PartGapStands}
use Rattle.curve_conv.specs.Scans.{sizes_in}
use Rattle.curve_conv.specs.SpanElements.{IsPartWindow}
use Rattle.curve_conv.proofs.GapStretches.{stretch_fits, stretch_stands}
use Rattle.curve_conv.proofs.GapWalks.{PartGapWalk, walk_start, time_in, gap_step, walk_step, walk_fewer, walk_end}
use Rattle.curve_conv.proofs.gaps.part_gap.Goals as goal

pub times-init : goal.times-init
times-init c =
    let s = c.args.s.now in
    walk_start (sizes_in s.first.now s.second.now s.end) (value_at s.first.now) (value_at s.second.now) c.args.first c.args.second c.args.from s.end c.requires.from

pub part_at-late-requires-clause-low : goal.part_at-late-requires-clause-low
part_at-late-requires-clause-low c =
    let s = c.args.s.now in
    let z = sizes_in s.first.now s.second.now s.end in
    subst (WindowTime z s.end) (sym c.zero-zero.ensures) record { whole = whole_int z.dt (pos 0); nonneg = le_refl (int (pos 0)); early = c.requires.scan.first.limited.some }

pub part_at-late-requires-clause-time : goal.part_at-late-requires-clause-time
part_at-late-requires-clause-time c =
    let s = c.args.s.now in
    let z = sizes_in s.first.now s.second.now s.end in
    time_in z (value_at s.first.now) (value_at s.second.now) c.args.first c.args.second c.args.from s.end c.times.t c.times.gap c.requires.from c.times.invariant (c.times-test.ensures.less.0 refl)

pub part_at-soon-requires-clause-from : goal.part_at-soon-requires-clause-from
part_at-soon-requires-clause-from c =
    let s = c.args.s.now in
    let z = sizes_in s.first.now s.second.now s.end in
    subst (WindowTime z s.end) (sym c.zero-zero.ensures) record { whole = whole_int z.dt (pos 0); nonneg = le_refl (int (pos 0)); early = c.requires.scan.first.limited.some }

pub part_at-soon-requires-clause-time : goal.part_at-soon-requires-clause-time
part_at-soon-requires-clause-time c =
    let s = c.args.s.now in
    let z = sizes_in s.first.now s.second.now s.end in
    time_in z (value_at s.first.now) (value_at s.second.now) c.args.first c.args.second c.args.from s.end c.times.t c.times.gap c.requires.from c.times.invariant (c.times-test.ensures.less.0 refl)

pub stretch_gap-more-requires-clause-fits : goal.stretch_gap-more-requires-clause-fits
stretch_gap-more-requires-clause-fits c =
    let s = c.args.s.now in
    let z = sizes_in s.first.now s.second.now s.end in
    let F = gap_step z (value_at s.first.now) (value_at s.second.now) c.args.first c.args.second c.args.from s.end c.times.t c.earlier.result c.earlier-next.result c.zero-zero.result c.times.gap
    c.part_at-late.result c.part_at-soon.result c.zero-zero.ensures c.requires.scan.first.limited c.requires.from c.times.invariant (c.times-test.ensures.less.0 refl) c.part_at-late.ensures.ahead
    c.part_at-soon.ensures.ahead c.part_at-late.ensures.sizes.next c.part_at-soon.ensures.sizes.next c.earlier.ensures c.earlier-next.ensures in
    stretch_fits z s.end c.times.t c.earlier-next.result c.part_at-late.result c.part_at-soon.result F.time F.to c.part_at-late.ensures.sizes c.part_at-soon.ensures.sizes

pub stretch_gap-more-requires-clause-some : goal.stretch_gap-more-requires-clause-some
stretch_gap-more-requires-clause-some c =
    let s = c.args.s.now in
    let z = sizes_in s.first.now s.second.now s.end in
    let F = gap_step z (value_at s.first.now) (value_at s.second.now) c.args.first c.args.second c.args.from s.end c.times.t c.earlier.result c.earlier-next.result c.zero-zero.result c.times.gap
    c.part_at-late.result c.part_at-soon.result c.zero-zero.ensures c.requires.scan.first.limited c.requires.from c.times.invariant (c.times-test.ensures.less.0 refl) c.part_at-late.ensures.ahead
    c.part_at-soon.ensures.ahead c.part_at-late.ensures.sizes.next c.part_at-soon.ensures.sizes.next c.earlier.ensures c.earlier-next.ensures in
    F.next.time.past

pub times-smaller : goal.times-smaller
times-smaller c =
    let s = c.args.s.now in
    let z = sizes_in s.first.now s.second.now s.end in
    let F = gap_step z (value_at s.first.now) (value_at s.second.now) c.args.first c.args.second c.args.from s.end c.times.t c.earlier.result c.earlier-next.result c.zero-zero.result c.times.gap
    c.part_at-late.result c.part_at-soon.result c.zero-zero.ensures c.requires.scan.first.limited c.requires.from c.times.invariant (c.times-test.ensures.less.0 refl) c.part_at-late.ensures.ahead
    c.part_at-soon.ensures.ahead c.part_at-late.ensures.sizes.next c.part_at-soon.ensures.sizes.next c.earlier.ensures c.earlier-next.ensures in
    walk_fewer z s.end c.times.t c.earlier-next.result c.part_at-late.result.next c.part_at-soon.result.next c.requires.scan.first.limited.sizes.dv c.requires.scan.first.limited.sizes.dt
    c.times.invariant.place F.next

pub times-preserved : goal.times-preserved
times-preserved c =
    let s = c.args.s.now in
    let z = sizes_in s.first.now s.second.now s.end in
    let F = gap_step z (value_at s.first.now) (value_at s.second.now) c.args.first c.args.second c.args.from s.end c.times.t c.earlier.result c.earlier-next.result c.zero-zero.result c.times.gap
    c.part_at-late.result c.part_at-soon.result c.zero-zero.ensures c.requires.scan.first.limited c.requires.from c.times.invariant (c.times-test.ensures.less.0 refl) c.part_at-late.ensures.ahead
    c.part_at-soon.ensures.ahead c.part_at-late.ensures.sizes.next c.part_at-soon.ensures.sizes.next c.earlier.ensures c.earlier-next.ensures in
    subst (PartGapWalk z (value_at s.first.now) (value_at s.second.now) c.args.first c.args.second c.args.from s.end c.earlier-next.result) (sym c.larger-gap.ensures)
    (walk_step z (value_at s.first.now) (value_at s.second.now) c.args.first c.args.second c.args.from s.end c.times.t c.earlier-next.result c.times.gap c.stretch_gap-more.result c.part_at-late.result
    c.part_at-soon.result c.times.invariant F.late F.soon F.next (λ a b G H h k. c.stretch_gap-more.ensures.gap a b G H h k)
    (subst (PartGapStands z) (sym c.stretch_gap-more.ensures.value)
    (stretch_stands z s.end c.times.t c.earlier-next.result c.part_at-late.result c.part_at-soon.result F.time F.to c.part_at-late.ensures.sizes c.part_at-soon.ensures.sizes)))

pub returns-clause-gap : goal.returns-clause-gap
returns-clause-gap c a b V =
    let s = c.args.s.now in
    let z = sizes_in s.first.now s.second.now s.end in
    let e = walk_end z (value_at s.first.now) (value_at s.second.now) c.args.first c.args.second c.args.from s.end c.times.t c.times.gap c.times.invariant (λ h. true≢false (sym (c.times-test.ensures.less.1 h))) in
    subst (λ t. IsGap (InWindow c.args.from t) a b c.times.gap) e
    (c.times.invariant.gap_is a b (subst (λ t. ArePartValues (value_at s.first.now) (value_at s.second.now) c.args.first c.args.second c.args.from t a b) (sym e) V))

pub returns-clause-values : goal.returns-clause-values
returns-clause-values c u i =
    let s = c.args.s.now in
    let z = sizes_in s.first.now s.second.now s.end in
    let e = walk_end z (value_at s.first.now) (value_at s.second.now) c.args.first c.args.second c.args.from s.end c.times.t c.times.gap c.times.invariant (λ h. true≢false (sym (c.times-test.ensures.less.1 h))) in
    c.times.invariant.values u (subst (λ t. InWindow c.args.from t u) (sym e) i)

pub part_at-late-requires-clause-made : goal.part_at-late-requires-clause-made
part_at-late-requires-clause-made c =
    let s = c.args.s.now in
    let z = sizes_in s.first.now s.second.now s.end in
    subst (λ y. IfSome c.args.made_late.now (λ v. IsPartWindow z s.end (value_at s.first.now) (value_at s.second.now) c.args.first None y v.items)) (sym c.zero-zero.ensures) c.requires.late

pub part_at-soon-requires-clause-made : goal.part_at-soon-requires-clause-made
part_at-soon-requires-clause-made c =
    let s = c.args.s.now in
    let z = sizes_in s.first.now s.second.now s.end in
    subst (λ y. IfSome c.args.made_soon.now (λ v. IsPartWindow z s.end (value_at s.first.now) (value_at s.second.now) y (Some c.args.first) c.args.second v.items)) (sym c.zero-zero.ensures) c.requires.soon
