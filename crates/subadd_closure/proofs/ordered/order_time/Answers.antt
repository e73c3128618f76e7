use Rattle.std.proofs.Common.{refl, subst, sym}
use Rattle.rational.specs.Grid.{Whole}
use Rattle.rational.specs.Rational.{◌<ℚ◌}
use Rattle.min_plus.specs.Functions.{zero_q}
use Rattle.upp_curve.specs.Curve.{value_at}
use Rattle.subadd_closure.specs.Ordered.{IsOrderTime}
use Rattle.subadd_closure.proofs.BelowWalk.{below_none}
use Rattle.subadd_closure.proofs.OrderedCurves.{ordered, own_is, window_to}
use Rattle.subadd_closure.proofs.ordered.order_time.Goals as goal

pub is_below-requires-clause-window : goal.is_below-requires-clause-window
is_below-requires-clause-window c =
    let (z, C) = c.requires.window in
    let (V, W, T) = window_to c.args.slow.now c.args.fast.now z c.args.from c.args.period C c.args.end c.requires.end in
    (z, V, W, T)

pub is_below-requires-clause-late : goal.is_below-requires-clause-late
is_below-requires-clause-late c = below_none (value_at c.args.slow.now) (value_at c.args.fast.now) c.args.end

pub earliest_order-requires-clause-window : goal.earliest_order-requires-clause-window
earliest_order-requires-clause-window c =
    let (z, C) = c.requires.window in
    let (V, W, T) = window_to c.args.slow.now c.args.fast.now z c.args.from c.args.period C c.args.end c.requires.end in
    (z, V, W, T, subst (Whole z.dt) (sym c.period_or-own.ensures) (own_is c.args.slow.now c.args.fast.now z c.args.from c.args.period C).whole)

pub earliest_order-requires-clause-own : goal.earliest_order-requires-clause-own
earliest_order-requires-clause-own c =
    let (z, C) = c.requires.window in
    subst (λ y. zero_q <ℚ y) (sym c.period_or-own.ensures) (own_is c.args.slow.now c.args.fast.now z c.args.from c.args.period C).some

pub earliest_order-requires-clause-below : goal.earliest_order-requires-clause-below
earliest_order-requires-clause-below c = c.if-not-is_below.ensures refl

pub returns : goal.returns
returns c =
    let (z, C) = c.requires.window in
    let slow = c.args.slow.now in
    let fast = c.args.fast.now in
    ordered slow fast z c.args.from c.args.period C c.args.end c.earliest_order.result c.requires.slower c.requires.end (c.if-not-is_below.ensures refl)
    (subst (λ y. IsOrderTime slow fast c.args.from y c.args.end c.earliest_order.result) c.period_or-own.ensures c.earliest_order.ensures)
