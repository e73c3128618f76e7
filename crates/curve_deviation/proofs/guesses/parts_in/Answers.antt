use Rattle.std.proofs.Common.{refl, subst}
use Rattle.rational.specs.Rational.{ℚ, ◌<ℚ◌}
use Rattle.rational.proofs.Laws.{not_zero}
use Rattle.curve_deviation.proofs.guesses.parts_in.Goals as goal

pub div-requires : goal.div-requires
div-requires c = not_zero c.args.part (subst (λ (z : ℚ). z <ℚ c.args.part) c.zero.ensures (c.if-not-is_less.ensures.less.0 refl))
