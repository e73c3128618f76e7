use Rattle.std.proofs.Common.{refl, subst}
use Rattle.std.proofs.lemmas.Option.{IfSome_then}
use Rattle.rational.specs.Rational.{ℚ, ◌<ℚ◌}
use Rattle.rational.proofs.Laws.{not_zero}
use Rattle.curve_call.proofs.StepsFit.{if_it_fits}
use Rattle.plain_operators.proofs.pointwise.Leanings.{crossed}
use Rattle.plain_operators.proofs.pointwise.leaning.crossing.Goals as goal

pub checked_quotient-requires : goal.checked_quotient-requires
checked_quotient-requires c = not_zero c.in_ok-faster.faster (subst (λ (z : ℚ). z <ℚ c.in_ok-faster.faster) c.zero.ensures (c.if-not-is_less.ensures.less.0 refl))

pub returns : goal.returns
returns c =
    IfSome_then c.checked_quotient.result (if_it_fits c.checked_quotient.result _ _ c.checked_quotient.ensures)
    (λ q e t h. crossed c.args.lines.now c.in_ok-faster.faster c.in_ok-gap.gap c.zero.result q t c.in_ok-faster.ensures c.in_ok-gap.ensures c.zero.ensures (c.if-not-is_less.ensures.less.0 refl) e h)
