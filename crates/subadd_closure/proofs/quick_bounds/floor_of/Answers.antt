use Rattle.std.proofs.Common.{sym, subst}
use Rattle.upp_normal.specs.Ahead.{IsTimeIn}
use Rattle.curve_conv.specs.Scans.{sizes_in}
use Rattle.curve_conv.proofs.BoundsFound.{begins_early}
use Rattle.curve_conv.proofs.OwnExtremes.{slow_windows, fast_windows, fast_own_fits}
use Rattle.subadd_closure.proofs.QuickCurves.{floor_is}
use Rattle.subadd_closure.proofs.quick_bounds.floor_of.Goals as goal

pub begin-first-requires : goal.begin-first-requires
begin-first-requires c = (begins_early c.args.slow.now c.args.fast.now c.args.from c.args.period c.args.end c.requires).0

pub begin-second-requires : goal.begin-second-requires
begin-second-requires c = (begins_early c.args.slow.now c.args.fast.now c.args.from c.args.period c.args.end c.requires).1

pub depth_over-requires : goal.depth_over-requires
depth_over-requires c =
    let z = sizes_in c.args.slow.now c.args.fast.now c.args.end in
    let W = slow_windows c.args.slow.now c.args.fast.now c.args.from c.args.period c.args.end c.begin-first.result c.period_or-slow_own.result c.in_ok-slow_end.slow_end
    c.requires c.begin-first.ensures c.period_or-slow_own.ensures c.in_ok-slow_end.ensures in
    (z, W.curve, W.zero, subst (IsTimeIn z c.in_ok-slow_end.slow_end) (sym c.zero.ensures) W.first)

pub depth_over-requires-2 : goal.depth_over-requires-2
depth_over-requires-2 c =
    let W = fast_windows c.args.slow.now c.args.fast.now c.args.from c.args.period c.args.end c.begin-second.result c.period_or-fast_own.result c.in_ok-fast_end.fast_end
    c.requires c.begin-second.ensures c.period_or-fast_own.ensures c.in_ok-fast_end.ensures in
    (sizes_in c.args.slow.now c.args.fast.now c.args.end, W.curve, W.zero, W.start)

pub rise_over-requires : goal.rise_over-requires
rise_over-requires c = fast_own_fits c.args.slow.now c.args.fast.now c.args.from c.args.period c.args.end c.period_or-fast_own.result c.requires c.period_or-fast_own.ensures

pub returns : goal.returns
returns c =
    floor_is c.args.slow.now c.args.fast.now c.args.from c.args.period c.args.end c.begin-first.result c.period_or-slow_own.result c.in_ok-slow_end.slow_end c.begin-second.result
    c.period_or-fast_own.result c.in_ok-fast_end.fast_end c.zero.result c.in_ok-slow_depth.slow_depth c.in_ok-fast_depth.fast_depth c.rise_over.result
    c.in_ok-both.both c.in_ok-floor.floor c.requires c.begin-first.ensures c.period_or-slow_own.ensures c.in_ok-slow_end.ensures c.begin-second.ensures
    c.period_or-fast_own.ensures c.in_ok-fast_end.ensures c.zero.ensures c.in_ok-slow_depth.ensures c.in_ok-fast_depth.ensures c.rise_over.ensures
    c.in_ok-both.ensures c.in_ok-floor.ensures
