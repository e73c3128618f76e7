use Rattle.std.proofs.Common.{subst}
use Rattle.rational.specs.Rational.{◌≤ℚ◌}
use Rattle.rational.proofs.Compared.{least_by_test}
use Rattle.netcalc_cli.proofs.words.rate_of.Goals as goal

pub returns-clause-from : goal.returns-clause-from
returns-clause-from c =
    subst (λ z. z ≤ℚ c.in-Ok.rate) c.zero.ensures
    (least_by_test c.in-Ok.rate c.zero.result c.if-is_less.ensures.less)
