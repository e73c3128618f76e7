use Rattle.curve_conv.specs.Scans.{sizes_in}
use Rattle.curve_conv.proofs.BoundsFound.{begins_early}
use Rattle.curve_conv.proofs.OwnExtremes.{fast_windows, fast_own_fits}
use Rattle.subadd_closure.proofs.QuickCurves.{fast_own_some, start_in, level_start}
use Rattle.subadd_closure.proofs.quick_bounds.level_from_start.Goals as goal

pub begin-first-requires : goal.begin-first-requires
begin-first-requires c = (begins_early c.args.slow.now c.args.fast.now c.args.from c.args.period c.args.end c.requires).0

pub begin-second-requires : goal.begin-second-requires
begin-second-requires c = (begins_early c.args.slow.now c.args.fast.now c.args.from c.args.period c.args.end c.requires).1

pub value_there-requires : goal.value_there-requires
value_there-requires c = (
  sizes_in c.args.slow.now c.args.fast.now c.args.end,
  c.args.end,
  c.requires.scan.first,
  start_in c.args.slow.now c.args.fast.now c.args.from c.args.period c.args.end c.begin-first.result c.requires c.begin-first.ensures,
)

pub top_over-requires : goal.top_over-requires
top_over-requires c =
    let W = fast_windows c.args.slow.now c.args.fast.now c.args.from c.args.period c.args.end c.begin-second.result c.period_or-own.result c.in_ok-last.last
    c.requires c.begin-second.ensures c.period_or-own.ensures c.in_ok-last.ensures in
    (sizes_in c.args.slow.now c.args.fast.now c.args.end, W.curve, W.zero, W.start)

pub rise_over-requires : goal.rise_over-requires
rise_over-requires c = fast_own_fits c.args.slow.now c.args.fast.now c.args.from c.args.period c.args.end c.period_or-own.result c.requires c.period_or-own.ensures

pub line_rise-requires : goal.line_rise-requires
line_rise-requires c = fast_own_some c.args.slow.now c.args.fast.now c.args.from c.args.period c.args.end c.period_or-own.result c.requires c.period_or-own.ensures

pub returns : goal.returns
returns c =
    level_start c.args.slow.now c.args.fast.now c.args.from c.args.period c.args.end c.begin-first.result c.begin-second.result c.period_or-own.result c.in_ok-last.last
    c.period_or.result c.in_ok-start.start c.in_ok-top.top c.rise_over.result c.in_ok-gain.gain c.in_ok-both.both c.in_ok-level.level c.requires
    c.begin-first.ensures c.begin-second.ensures c.period_or-own.ensures c.in_ok-last.ensures c.period_or.ensures c.rise_over.ensures c.in_ok-start.ensures
    c.in_ok-top.ensures c.in_ok-gain.ensures c.in_ok-both.ensures c.in_ok-level.ensures
