use Rattle.std.proofs.Common.{subst}
use Rattle.rational.specs.Rational.{◌≤ℚ◌}
use Rattle.rational.proofs.Compared.{not_less_out}
use Rattle.upp_limits.proofs.CoveredCounts.{copies_few}
use Rattle.upp_limits.proofs.counts.copies_after.Goals as goal

pub count_before-copies-requires-clause-start : goal.count_before-copies-requires-clause-start
count_before-copies-requires-clause-start c =
    subst (λ z. z ≤ℚ c.args.rank) c.zero.ensures (not_less_out c.is_less.result c.args.rank c.zero.result c.is_less.ensures.less c.if-is_less.false)

pub returns : goal.returns
returns c = λ rise.
    copies_few c.args.rank c.args.period rise c.args.end c.count_before-copies.result c.requires c.count_before-copies.ensures c.if-copies.false
