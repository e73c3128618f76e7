use Rattle.std.proofs.Common.{refl, sym, true≢false}
use Rattle.rational.proofs.Laws.{le_of_not_lt}
use Rattle.rational.specs.Rational.{int}
use Rattle.std.specs.Prelude.{pos}
use Rattle.curve_conv.specs.Scans.{sizes_in}
use Rattle.curve_conv.proofs.LateNumbers.{late_times}
use Rattle.curve_conv.proofs.BegunMoves.{start_time, begun_window, begun_enough}
use Rattle.curve_conv.proofs.begun.begun_suffices.Goals as goal

pub begun_at-requires : goal.begun_at-requires
begun_at-requires c =
    let s = c.args.s.now in
    let C = c.requires.call in
    (sizes_in s.first.now s.second.now s.end, s.end, C.scan.first, start_time s.first.now s.second.now c.args.from c.args.period s.end (int (pos 0)) C refl)

pub rise_over-rise-requires : goal.rise_over-rise-requires
rise_over-rise-requires c = let s = c.args.s.now in (late_times s.first.now s.second.now c.args.from c.args.period s.end c.requires.call).fast_rise.fits

pub rise_between-requires : goal.rise_between-requires
rise_between-requires c =
    let s = c.args.s.now in
    begun_window s.first.now s.second.now c.args.from c.args.period s.end c.in-Some.begin c.args.first c.requires.call c.requires.first c.in-Some.ensures

pub returns : goal.returns
returns c = λ h.
    let s = c.args.s.now in
    begun_enough s.first.now s.second.now c.args.from c.args.period s.end c.in-Some.begin c.args.first c.in-Some-rise_between.most c.rise_over-rise.result c.requires.call c.requires.first c.rise_over-rise.ensures c.in-Some.ensures
    c.in-Some-rise_between.ensures (le_of_not_lt (λ k. true≢false (sym (c.if-is_less.ensures.less.1 k)))) (c.start_suffices.ensures h)
