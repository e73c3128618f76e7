use Rattle.std.proofs.Common.{refl}
use Rattle.curve_conv.specs.Scans.{sizes_in}
use Rattle.curve_conv.proofs.BoundsFound.{begins_early}
use Rattle.subadd_closure.proofs.OrderedCurves.{bounds_ordered, late_compared}
use Rattle.subadd_closure.proofs.ordered.order_bounds.Goals as goal

pub order_time-requires-clause-slower : goal.order_time-requires-clause-slower
order_time-requires-clause-slower c = c.requires.call.slower

pub order_time-requires-clause-window : goal.order_time-requires-clause-window
order_time-requires-clause-window c = (
  sizes_in c.args.slow.now c.args.fast.now c.args.end,
  late_compared c.args.slow.now c.args.fast.now c.args.from c.args.period c.args.end c.requires.call,
)

pub order_time-requires-clause-end : goal.order_time-requires-clause-end
order_time-requires-clause-end c = c.requires.call.end_is

pub begin-requires : goal.begin-requires
begin-requires c = (begins_early c.args.slow.now c.args.fast.now c.args.from c.args.period c.args.end c.requires.call).0

pub periods_for-requires : goal.periods_for-requires
periods_for-requires c = c.requires.call.some

pub returns : goal.returns
returns c =
    bounds_ordered c.args.slow.now c.args.fast.now c.args.from c.args.period c.args.end c.requires.call c.in_ok-until.until
    c.begin.result c.in_ok-late.late c.in_ok-gap.gap c.in_ok-high.high c.requires.subadditive (c.if-not-is_low_at_zero.ensures refl) c.in_ok-until.ensures
    c.begin.ensures c.in_ok-late.ensures c.in_ok-gap.ensures.value c.in_ok-high.ensures
