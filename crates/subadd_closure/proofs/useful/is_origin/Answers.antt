use Rattle.std.proofs.Common.{subst}
use Rattle.rational.specs.Rational.{◌≤ℚ◌}
use Rattle.rational.proofs.Compared.{least_by_test}
use Rattle.subadd_closure.proofs.ThinnedElements.{at_most}
use Rattle.subadd_closure.proofs.UsefulPairs.{origin_is}
use Rattle.subadd_closure.proofs.useful.is_origin.Goals as goal

pub returns : goal.returns
returns c h =
    origin_is c.in-Point.x c.in-Point.v c.args.e.now c.in-Point.is
    (subst (λ z. c.in-Point.x ≤ℚ z) c.zero.ensures (least_by_test c.zero.result c.in-Point.x c.if-is_less.ensures.less))
    (subst (λ z. z ≤ℚ c.in-Point.v) c.zero-2.ensures (at_most c.is_less-2.result c.zero-2.result c.in-Point.v c.is_less-2.ensures.less h))
