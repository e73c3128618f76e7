use Rattle.std.proofs.Common.{sym, true≢false}
use Rattle.rational.proofs.Laws.{le_of_not_lt}
use Rattle.upp_curve.specs.Curve.{value_at}
use Rattle.curve_conv.proofs.LateNumbers.{late_times}
use Rattle.curve_conv.proofs.SoonEnough.{soon_window, soon_at_once, soon_number_is, from_zero}
use Rattle.curve_conv.proofs.bounds.soon_number.Goals as goal

pub rise_over-rise-requires : goal.rise_over-rise-requires
rise_over-rise-requires c = let s = c.args.s.now in (late_times s.first.now s.second.now c.args.from c.args.period s.end c.requires.call).slow_rise.fits

pub rise_between-requires : goal.rise_between-requires
rise_between-requires c = let s = c.args.s.now in soon_window s.first.now s.second.now c.args.from c.args.period s.end c.zero.result c.args.first c.requires.call c.zero.ensures c.requires.first

pub rise_over-requires : goal.rise_over-requires
rise_over-requires c = let s = c.args.s.now in (late_times s.first.now s.second.now c.args.from c.args.period s.end c.requires.call).fast_rise.fits

pub returns-then-not-is_less : goal.returns-then-not-is_less
returns-then-not-is_less c =
    let s = c.args.s.now in
    soon_at_once s.first.now s.second.now c.args.from c.args.period s.end c.args.first c.in_ok-most.most c.rise_over.result c.requires.call c.requires.first c.rise_over.ensures (from_zero (value_at s.first.now) c.args.period c.zero.result c.args.first c.in_ok-most.most c.zero.ensures c.in_ok-most.ensures)
    (le_of_not_lt (λ h. true≢false (sym (c.if-not-is_less.ensures.less.1 h))))

pub returns : goal.returns
returns c =
    let s = c.args.s.now in
    soon_number_is s.first.now s.second.now c.args.from c.args.period s.end c.args.first c.in_ok-most.most c.rise_over-rise.result c.in_ok-gained.gained c.args.lead c.periods_over.result c.requires.call c.requires.first
    (le_of_not_lt (λ h. true≢false (sym (c.if-is_less.ensures.less.1 h)))) (from_zero (value_at s.first.now) c.args.period c.zero.result c.args.first c.in_ok-most.most c.zero.ensures c.in_ok-most.ensures) c.rise_over-rise.ensures c.in_ok-gained.ensures c.requires.lead c.periods_over.ensures
