use Rattle.std.proofs.Common.{refl}
use Rattle.subadd_closure.proofs.QuickCurves.{bounds_late}
use Rattle.subadd_closure.proofs.quick_bounds.bounds_of.Goals as goal

pub returns-then-begins_late : goal.returns-then-begins_late
returns-then-begins_late c = bounds_late c.args.slow.now c.args.fast.now c.args.from c.args.period c.args.end c.requires (c.if-begins_late.ensures refl)
