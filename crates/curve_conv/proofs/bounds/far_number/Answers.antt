use Rattle.std.proofs.Common.{pos, sym, subst, true≢false}
use Rattle.rational.specs.Rational.{int}
use Rattle.rational.specs.Extended.{◌<ₑ◌}
use Rattle.upp_curve.specs.Steady.{rate}
use Rattle.curve_call.specs.Levels.{level_curve}
use Rattle.curve_conv.proofs.BoundsFound.{begins_early, far_number_is}
use Rattle.curve_conv.proofs.bounds.far_number.Goals as goal

pub begin-requires : goal.begin-requires
begin-requires c = let s = c.args.s.now in (begins_early s.first.now s.second.now c.args.from c.args.period s.end c.requires.call).1

pub returns : goal.returns
returns c =
    let s = c.args.s.now in
    far_number_is s.first.now s.second.now c.args.from c.args.period s.end c.in_ok-e.e c.in_ok-gap.gap c.args.lead c.periods_over.result c.requires.call
    (λ h. true≢false (sym (c.if-is_slower.ensures.1 (subst (λ k. rate c.of.result <ₑ rate k) (sym c.zero_level.ensures) (subst (λ k. rate k <ₑ rate (level_curve (int (pos 0)))) (sym c.of.ensures) h))))) c.in_ok-e.ensures c.in_ok-gap.ensures c.requires.lead
    c.periods_over.ensures
