use Rattle.std.proofs.Common.{sym, subst, ap, ap₂, ◌∙◌, true≢false}
use Rattle.rational.specs.Rational.{ℚ, ◌+ℚ◌}
use Rattle.rational.specs.Extended.{◌<ₑ◌}
use Rattle.upp_curve.specs.Steady.{rate, rise_over}
use Rattle.curve_call.specs.Bounds.{IsMost}
use Rattle.curve_call.proofs.OwnPeriods.{first_looked, second_looked}
use Rattle.curve_call.proofs.MostAbove.{depth_finite, most_is, own_rise_small, first_sum_fits, second_sum_fits}
use Rattle.curve_call.proofs.bounds.most_over.Goals as goal

pub top_over-requires : goal.top_over-requires
top_over-requires c = let w = c.requires.window in (w.0, first_looked w.0 c.args.from c.args.period c.args.slow.now c.args.fast.now w.1)

pub depth_over-requires : goal.depth_over-requires
depth_over-requires c = let w = c.requires.window in (w.0, second_looked w.0 c.args.from c.args.period c.args.slow.now c.args.fast.now w.1)

pub rise_of-rise-requires : goal.rise_of-rise-requires
rise_of-rise-requires c =
    let w = c.requires.window in
    own_rise_small w.0 c.args.from c.args.period c.own_period.result c.args.slow.now c.args.fast.now w.1 (depth_finite c.args.from c.args.period c.in_ok-depth.depth c.args.fast.now c.in_ok-depth.ensures.largest) c.own_period.ensures

pub sum-requires : goal.sum-requires
sum-requires c =
    let w = c.requires.window in
    first_sum_fits w.0 c.args.from c.args.period c.in_ok-top.top c.in_ok-depth.depth c.args.slow.now c.args.fast.now w.1 c.in_ok-top.ensures.sizes c.in_ok-depth.ensures.sizes

pub sum-requires-2 : goal.sum-requires-2
sum-requires-2 c =
    let w = c.requires.window in
    let finite = depth_finite c.args.from c.args.period c.in_ok-depth.depth c.args.fast.now c.in_ok-depth.ensures.largest in
    second_sum_fits w.0 c.args.from c.args.period c.in_ok-top.top c.in_ok-depth.depth c.own_period.result c.rise_of-rise.result c.sum.result c.args.slow.now c.args.fast.now w.1 c.in_ok-top.ensures.sizes
    c.in_ok-depth.ensures.sizes finite c.own_period.ensures c.rise_of-rise.ensures c.sum.ensures

pub returns : goal.returns
returns c =
    let w = c.requires.window in
    let rise = c.rise_of-rise.ensures ∙ ap (rise_over c.args.fast.now) c.own_period.ensures in
    let whole = c.sum-2.ensures ∙ ap₂ (λ (x y : ℚ). x +ℚ y) c.sum.ensures rise in
    subst (IsMost c.args.from c.args.period c.args.slow.now c.args.fast.now) (sym whole)
    (most_is w.0 c.args.from c.args.period c.args.slow.now c.args.fast.now c.in_ok-top.top c.in_ok-depth.depth w.1 c.requires.slower
    (λ h. true≢false (sym (c.if-is_slower.ensures.1 (subst (λ k. rate c.args.slow.now <ₑ rate k) (sym c.zero_level.ensures) h))))
    c.in_ok-top.ensures.largest c.in_ok-depth.ensures.largest c.in_ok-top.ensures.sizes c.in_ok-depth.ensures.sizes)
