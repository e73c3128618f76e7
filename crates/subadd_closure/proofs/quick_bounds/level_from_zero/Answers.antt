use Rattle.curve_conv.specs.Scans.{sizes_in}
use Rattle.curve_conv.proofs.BoundsFound.{begins_early}
use Rattle.curve_conv.proofs.OwnExtremes.{slow_windows}
use Rattle.subadd_closure.proofs.QuickCurves.{slow_own_fits, slow_own_some, zero_in, level_zero}
use Rattle.subadd_closure.proofs.quick_bounds.level_from_zero.Goals as goal

pub begin-first-requires : goal.begin-first-requires
begin-first-requires c = (begins_early c.args.slow.now c.args.fast.now c.args.from c.args.period c.args.end c.requires).0

pub begin-second-requires : goal.begin-second-requires
begin-second-requires c = (begins_early c.args.slow.now c.args.fast.now c.args.from c.args.period c.args.end c.requires).1

pub top_over-requires : goal.top_over-requires
top_over-requires c =
    let W = slow_windows c.args.slow.now c.args.fast.now c.args.from c.args.period c.args.end c.begin-first.result c.period_or-own.result c.in_ok-last.last
    c.requires c.begin-first.ensures c.period_or-own.ensures c.in_ok-last.ensures in
    (sizes_in c.args.slow.now c.args.fast.now c.args.end, W.curve, W.zero, W.start)

pub value_there-requires : goal.value_there-requires
value_there-requires c = (
  sizes_in c.args.slow.now c.args.fast.now c.args.end,
  c.args.end,
  c.requires.scan.second,
  zero_in c.args.slow.now c.args.fast.now c.args.from c.args.period c.args.end c.zero.result c.requires c.zero.ensures,
)

pub rise_over-requires : goal.rise_over-requires
rise_over-requires c = slow_own_fits c.args.slow.now c.args.fast.now c.args.from c.args.period c.args.end c.period_or-own.result c.requires c.period_or-own.ensures

pub line_rise-requires : goal.line_rise-requires
line_rise-requires c = slow_own_some c.args.slow.now c.args.fast.now c.args.from c.args.period c.args.end c.period_or-own.result c.requires c.period_or-own.ensures

pub returns : goal.returns
returns c =
    level_zero c.args.slow.now c.args.fast.now c.args.from c.args.period c.args.end c.begin-first.result c.period_or-own.result c.in_ok-last.last
    c.begin-second.result c.zero.result c.in_ok-top.top c.in_ok-start.start c.rise_over.result c.in_ok-gain.gain c.in_ok-both.both c.in_ok-level.level c.requires
    c.begin-first.ensures c.period_or-own.ensures c.in_ok-last.ensures c.begin-second.ensures c.zero.ensures c.rise_over.ensures c.in_ok-top.ensures
    c.in_ok-start.ensures c.in_ok-gain.ensures c.in_ok-both.ensures c.in_ok-level.ensures
