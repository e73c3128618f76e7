use Rattle.std.proofs.Common.{◌<◌, ◌^◌, refl, sym, subst, true≢false, arith}
use Rattle.rational.specs.Rational.{ℚ, ◌≤ℚ◌}
use Rattle.rational.proofs.Laws.{le_of_not_lt}
use Rattle.flow_watch.proofs.Slides.{wide_more, sliding_more}
use Rattle.flow_watch.proofs.sliding.before_upto.Goals as goal

pub narrowed-slide-requires-clause-wide : goal.narrowed-slide-requires-clause-wide
narrowed-slide-requires-clause-wide c =
    wide_more c.args.value c.args.end c.args.entries.now c.loop-number.number c.loop-number.slide.first c.loop-number.slide.bits c.index-entries-number.result c.requires c.loop-number-test.true c.index-entries-number.is c.loop-number.invariant

pub loop-number-preserved : goal.loop-number-preserved
loop-number-preserved c =
    let e = c.index-entries-number.result in
    let small : e.bits < 2 ^ 32 = omega arith in
    sliding_more c.args.value c.args.end c.args.entries.now c.loop-number.number c.narrowed-slide.result.first c.narrowed-slide.result.bits c.loop-number.slide.first c.loop-number.slide.bits _ e c.loop-number-test.true small refl
    c.narrowed-slide.ensures.fewer c.narrowed-slide.ensures.narrow (subst (λ (x : ℚ). x ≤ℚ c.args.value) c.whole_of.ensures (le_of_not_lt (λ h. true≢false (sym (c.if-is_less.ensures.less.1 h))))) c.loop-number.invariant
