use Rattle.std.proofs.Common.{sym, subst}
use Rattle.upp_curve.specs.Curve.{value_at}
use Rattle.upp_normal.specs.Ahead.{HasWindow, IsTimeIn}
use Rattle.curve_call.specs.declared.gaps.Gap.TheVariants.{NoTime, Never, Is}
use Rattle.curve_call.specs.Gaps.{IsGapUntil}
use Rattle.curve_call.proofs.LeastNumber.{end_fits, compared_window, until_none, until_endless, until_gap}
use Rattle.curve_call.proofs.least.least_below_until.Goals as goal

pub sum-end-requires : goal.sum-end-requires
sum-end-requires c = let w = c.requires.window in end_fits w.0 c.args.from c.args.period c.args.slow.now c.args.fast.now w.1.first.curve w.1

pub gap_until-requires : goal.gap_until-requires
gap_until-requires c =
    let w = c.requires.window in
    let (V, W, T) = compared_window w.0 c.args.from c.args.period c.args.slow.now c.args.fast.now w.1.first.curve w.1.second.curve w.1 in
    let e = sym c.sum-end.ensures in
    (w.0, subst (λ x. HasWindow w.0 x c.args.slow.now) e V, subst (λ x. HasWindow w.0 x c.args.fast.now) e W, subst (λ x. IsTimeIn w.0 x c.args.from) e T)

pub least_over-requires-clause-window : goal.least_over-requires-clause-window
least_over-requires-clause-window c =
    let w = c.requires.window in
    let (V, W, T) = compared_window w.0 c.args.from c.args.period c.args.slow.now c.args.fast.now w.1.first.curve w.1.second.curve w.1 in
    let e = sym c.sum-end.ensures in
    (w.0, w.1, c.in-Is.ensures.sizes w.0 (subst (λ x. HasWindow w.0 x c.args.slow.now) e V) (subst (λ x. HasWindow w.0 x c.args.fast.now) e W) (subst (λ x. IsTimeIn w.0 x c.args.from) e T))

pub least_over-requires-clause-gap : goal.least_over-requires-clause-gap
least_over-requires-clause-gap c = let U = c.in-Is.ensures.gap in (U.until, U.is)

pub returns-in-NoTime : goal.returns-in-NoTime
returns-in-NoTime c =
    let w = c.requires.window in
    until_none w.0 c.args.from c.args.period c.args.soon c.args.slow.now c.args.fast.now w.1 c.requires.below
    (subst (λ x. IsGapUntil c.args.from x c.args.soon (value_at c.args.slow.now) (value_at c.args.fast.now) NoTime) c.sum-end.ensures c.in-NoTime.ensures.gap)

pub returns-in-Never : goal.returns-in-Never
returns-in-Never c =
    let w = c.requires.window in
    until_endless w.0 c.args.from c.args.period c.args.soon c.args.slow.now c.args.fast.now w.1
    (subst (λ x. IsGapUntil c.args.from x c.args.soon (value_at c.args.slow.now) (value_at c.args.fast.now) Never) c.sum-end.ensures c.in-Never.ensures.gap)

pub returns-in-Is : goal.returns-in-Is
returns-in-Is c =
    let w = c.requires.window in
    until_gap w.0 c.args.from c.args.period c.args.soon c.in-Is.gap c.args.slow.now c.args.fast.now c.least_over.result c.requires.slower w.1 c.requires.below
    (subst (λ x. IsGapUntil c.args.from x c.args.soon (value_at c.args.slow.now) (value_at c.args.fast.now) (Is c.in-Is.gap)) c.sum-end.ensures c.in-Is.ensures.gap)
    c.least_over.ensures
