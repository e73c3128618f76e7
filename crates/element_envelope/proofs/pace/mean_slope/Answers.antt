use Rattle.std.proofs.Common.{refl, subst}
use Rattle.rational.specs.Rational.{ℚ, ◌<ℚ◌}
use Rattle.rational.proofs.Laws.{not_zero}
use Rattle.element_envelope.proofs.pace.mean_slope.Goals as goal

pub checked_quotient-requires : goal.checked_quotient-requires
checked_quotient-requires c = not_zero c.in_ok-time.time (subst (λ (z : ℚ). z <ℚ c.in_ok-time.time) c.zero.ensures (c.if-not-is_less.ensures.less.0 refl))
