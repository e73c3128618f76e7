use Rattle.std.proofs.Common.{refl, subst}
use Rattle.rational.specs.Rational.{ℚ, ◌<ℚ◌}
use Rattle.rational.proofs.Laws.{not_zero}
use Rattle.run_watch.proofs.classes.past_whole.Goals as goal

pub div-requires : goal.div-requires
div-requires c = not_zero c.args.period (subst (λ (z : ℚ). z <ℚ c.args.period) c.zero.ensures (c.if-not-is_less.ensures.less.0 refl))
