use Rattle.rational.proofs.Compared.{not_less_out}
use Rattle.std.proofs.Common.{subst}
use Rattle.rational.specs.Rational.{◌≤ℚ◌}
use Rattle.upp_limits.proofs.CoveredCalls.{rise_is_most}
use Rattle.upp_limits.proofs.first_copies.rise_before.Goals as goal

pub count_before-copies-requires-clause-start : goal.count_before-copies-requires-clause-start
count_before-copies-requires-clause-start c =
    subst (λ z. z ≤ℚ c.args.rank) c.zero.ensures (not_less_out c.is_less.result c.args.rank c.zero.result c.is_less.ensures.less c.if-is_less.false)

pub returns-in-Some : goal.returns-in-Some
returns-in-Some c =
    rise_is_most c.args.rank c.args.period c.args.rise c.args.end c.count_before-copies.result c.size_up.result c.in-Some.most c.requires c.count_before-copies.ensures c.if-copies.false c.size_up.ensures c.in-Some.ensures.1
