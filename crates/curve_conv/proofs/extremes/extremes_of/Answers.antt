use Rattle.std.proofs.Common.{sym, subst}
use Rattle.upp_normal.specs.Ahead.{IsTimeIn}
use Rattle.curve_conv.specs.Scans.{sizes_in}
use Rattle.curve_conv.proofs.OwnExtremes.{slow_windows, fast_windows, fast_own_fits, extremes_are}
use Rattle.curve_conv.proofs.extremes.extremes_of.Goals as goal

pub top_over-requires : goal.top_over-requires
top_over-requires c =
    let s = c.args.s.now in
    let W = slow_windows s.first.now s.second.now c.args.from c.args.period s.end c.args.first c.period_or-slow_own.result c.in_ok-slow_end.slow_end c.requires.call c.requires.first c.period_or-slow_own.ensures c.in_ok-slow_end.ensures in
    (sizes_in s.first.now s.second.now s.end, W.curve, W.zero, W.start)

pub depth_over-requires : goal.depth_over-requires
depth_over-requires c =
    let s = c.args.s.now in
    let z = sizes_in s.first.now s.second.now s.end in
    let W = slow_windows s.first.now s.second.now c.args.from c.args.period s.end c.args.first c.period_or-slow_own.result c.in_ok-slow_end.slow_end c.requires.call c.requires.first c.period_or-slow_own.ensures c.in_ok-slow_end.ensures in
    (z, W.curve, W.zero, subst (IsTimeIn z c.in_ok-slow_end.slow_end) (sym c.zero-zero.ensures) W.first)

pub depth_over-requires-2 : goal.depth_over-requires-2
depth_over-requires-2 c =
    let s = c.args.s.now in
    let W = fast_windows s.first.now s.second.now c.args.from c.args.period s.end c.args.second c.period_or-fast_own.result c.in_ok-fast_end.fast_end c.requires.call c.requires.second c.period_or-fast_own.ensures c.in_ok-fast_end.ensures in
    (sizes_in s.first.now s.second.now s.end, W.curve, W.zero, W.start)

pub value_there-requires : goal.value_there-requires
value_there-requires c =
    let s = c.args.s.now in
    let W = fast_windows s.first.now s.second.now c.args.from c.args.period s.end c.args.second c.period_or-fast_own.result c.in_ok-fast_end.fast_end c.requires.call c.requires.second c.period_or-fast_own.ensures c.in_ok-fast_end.ensures in
    (sizes_in s.first.now s.second.now s.end, c.in_ok-fast_end.fast_end, W.curve, W.start)

pub rise_over-fast_rise-requires : goal.rise_over-fast_rise-requires
rise_over-fast_rise-requires c = let s = c.args.s.now in fast_own_fits s.first.now s.second.now c.args.from c.args.period s.end c.period_or-fast_own.result c.requires.call c.period_or-fast_own.ensures

pub returns : goal.returns
returns c =
    let s = c.args.s.now in
    extremes_are s.first.now s.second.now c.args.period c.args.first c.period_or-slow_own.result c.in_ok-slow_end.slow_end c.args.second c.period_or-fast_own.result c.in_ok-fast_end.fast_end c.zero-zero.result _ c.requires.first
    c.requires.second c.period_or-slow_own.ensures c.period_or-fast_own.ensures c.in_ok-slow_end.ensures c.in_ok-fast_end.ensures c.zero-zero.ensures c.in_ok-slow_top.ensures c.in_ok-slow_depth.ensures c.in_ok-fast_depth.ensures
    c.in_ok-fast_start.ensures c.rise_over-fast_rise.ensures
