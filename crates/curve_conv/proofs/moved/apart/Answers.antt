use Rattle.std.proofs.Common.{refl, subst}
use Rattle.rational.specs.Rational.{◌<ℚ◌}
use Rattle.rational.proofs.Laws.{not_zero}
use Rattle.curve_conv.proofs.moved.apart.Goals as goal

pub div-requires : goal.div-requires
div-requires c = not_zero c.period_or-own.result (subst (λ y. y <ℚ c.period_or-own.result) c.zero.ensures (c.if-not-is_less.ensures.less.0 refl))
