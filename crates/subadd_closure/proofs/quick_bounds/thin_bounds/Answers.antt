use Rattle.curve_conv.specs.LateBounds.{IsLateBounds}
use Rattle.subadd_closure.proofs.OrderedCurves.{either_bounds}
use Rattle.subadd_closure.proofs.quick_bounds.thin_bounds.Goals as goal

pub returns : goal.returns
returns c =
    either_bounds (IsLateBounds c.args.slow.now c.args.fast.now c.args.from c.args.period) c.less_of.result c.bounds_of-level.result
    c.order_bounds-order.result c.less_of.ensures c.bounds_of-level.ensures c.order_bounds-order.ensures
