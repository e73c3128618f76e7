use Rattle.std.proofs.Common.{sym, true≢false}
use Rattle.rational.proofs.Laws.{le_of_not_lt}
use Rattle.upp_curve.specs.Curve.{value_at}
use Rattle.curve_conv.specs.Scans.{sizes_in}
use Rattle.curve_conv.proofs.BegunMoves.{start_time, late_time, start_window, starts_moved}
use Rattle.curve_conv.proofs.begun.start_moves.Goals as goal

pub value_there-requires : goal.value_there-requires
value_there-requires c =
    let s = c.args.s.now in
    let C = c.requires.call in
    (sizes_in s.first.now s.second.now s.end, s.end, C.scan.first, start_time s.first.now s.second.now c.args.from c.args.period s.end c.zero.result C c.zero.ensures)

pub value_there-requires-2 : goal.value_there-requires-2
value_there-requires-2 c =
    let s = c.args.s.now in
    let C = c.requires.call in
    (sizes_in s.first.now s.second.now s.end, s.end, C.scan.first, late_time s.first.now s.second.now c.args.from c.args.period s.end c.args.v C c.requires.whole c.requires.some c.requires.soon)

pub rise_between-requires : goal.rise_between-requires
rise_between-requires c =
    let s = c.args.s.now in
    start_window s.first.now s.second.now c.args.from c.args.period s.end c.args.v c.negated.result c.requires.call c.requires.whole c.requires.some c.requires.soon c.negated.ensures

pub returns : goal.returns
returns c = λ h.
    let s = c.args.s.now in
    starts_moved (value_at s.first.now) (value_at s.second.now) c.zero.result c.args.v c.negated.result c.args.from s.end c.in-Some.start c.in-Some-value_there.late c.in-Some-checked_difference.rise c.in-Some-rise_between.most
    c.zero.ensures c.negated.ensures c.in-Some.ensures c.in-Some-value_there.ensures c.in-Some-checked_difference.ensures c.in-Some-rise_between.ensures
    (le_of_not_lt (λ k. true≢false (sym (c.if-is_less.ensures.less.1 k))))
