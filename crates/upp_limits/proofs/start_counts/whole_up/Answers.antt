use Rattle.std.proofs.Common.{subst, ◌∙◌}
use Rattle.rational.specs.Rational.{◌<ℚ◌, ◌≤ℚ◌}
use Rattle.rational.proofs.Compared.{not_less_out}
use Rattle.upp_limits.proofs.Rounding.{whole_up_neg, whole_up_size}
use Rattle.upp_limits.proofs.start_counts.whole_up.Goals as goal

pub returns-then-is_less : goal.returns-then-is_less
returns-then-is_less c = whole_up_neg c.args.x (subst (λ z. c.args.x <ℚ z) c.zero.ensures (c.is_less.ensures.less.0 c.if-is_less.true))

pub returns-else-is_less : goal.returns-else-is_less
returns-else-is_less c =
    c.size_up.ensures ∙ whole_up_size c.args.x (subst (λ z. z ≤ℚ c.args.x) c.zero.ensures (not_less_out c.is_less.result c.args.x c.zero.result c.is_less.ensures.less c.if-is_less.false))
