use Rattle.std.proofs.Common.{◌≡◌, refl, subst, sym}
use Rattle.rational.specs.Rational.{◌+ℚ◌}
use Rattle.rational.proofs.Laws.{le_of_lt}
use Rattle.curve_call.specs.Rises.{CurveRiseFits}
use Rattle.subadd_closure.proofs.OrderedCurves.{begin_fits, own_rise, repeats_early}
use Rattle.subadd_closure.proofs.ordered.repetition_of.Goals as goal

pub begin-requires : goal.begin-requires
begin-requires c =
    let (z, C) = c.requires.window in
    begin_fits c.args.slow.now c.args.fast.now z c.args.from c.args.period C

pub rise_over-requires : goal.rise_over-requires
rise_over-requires c =
    let (z, C) = c.requires.window in
    subst (CurveRiseFits c.args.slow.now) (sym c.period_or-own.ensures) (own_rise c.args.slow.now c.args.fast.now z c.args.from c.args.period C).fits

pub returns : goal.returns
returns c = λ z C.
    repeats_early c.args.slow.now c.args.fast.now z c.args.from c.args.period C c.in_ok-until.until c.in_ok-first.first c.period_or-own.result c.in_ok-last.last
    c.rise_over.result c.args.end c.requires.subadditive (c.if-not-is_low_at_zero.ensures refl) c.in_ok-until.ensures c.period_or-own.ensures
    (subst (λ x. c.in_ok-first.first ≡ x +ℚ c.in_ok-until.until) c.begin.ensures c.in_ok-first.ensures) c.in_ok-last.ensures c.rise_over.ensures
    (le_of_lt (c.if-not-is_less.ensures.less.0 refl))
