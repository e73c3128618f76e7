use Rattle.std.proofs.Common.{subst}
use Rattle.rational.specs.Rational.{◌≤ℚ◌}
use Rattle.rational.proofs.Compared.{least_by_test}
use Rattle.curve_tests.proofs.shapes.value.Goals as goal

pub value_at-requires : goal.value_at-requires
value_at-requires c = subst (λ z. z ≤ℚ c.args.t) c.zero.ensures (least_by_test c.args.t c.zero.result c.if-is_less.ensures.less)
