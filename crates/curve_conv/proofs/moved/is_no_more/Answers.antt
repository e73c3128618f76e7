use Rattle.std.proofs.Common.{sym, true≢false}
use Rattle.rational.proofs.Laws.{le_of_not_lt}
use Rattle.curve_conv.proofs.SoonEnough.{moved_window, moved_enough, from_zero}
use Rattle.upp_curve.specs.Curve.{value_at}
use Rattle.curve_conv.proofs.moved.is_no_more.Goals as goal

pub rise_between-requires : goal.rise_between-requires
rise_between-requires c =
    let s = c.args.s.now in
    let M = c.in-Some.ensures in
    moved_window s.first.now s.second.now c.args.from c.args.period s.end c.zero.result c.args.first c.in-Some.m.time c.requires.call c.zero.ensures c.requires.first M.some M.early M.whole

pub returns : goal.returns
returns c = λ h.
    let s = c.args.s.now in
    let M = c.in-Some.ensures in
    moved_enough s.first.now s.second.now c.args.from c.args.period s.end c.args.first c.in-Some-rise_between.most c.in-Some.m.time c.in-Some.m.rise c.requires.call c.requires.first M.some M.early M.repeats
    (from_zero (value_at s.first.now) c.in-Some.m.time c.zero.result c.args.first c.in-Some-rise_between.most c.zero.ensures c.in-Some-rise_between.ensures)
    (le_of_not_lt (λ h. true≢false (sym (c.if-is_less.ensures.less.1 h))))
