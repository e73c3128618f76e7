use Rattle.std.proofs.Common.{subst}
use Rattle.rational.specs.Rational.{◌≤ℚ◌}
use Rattle.rational.proofs.Compared.{least_by_test}
use Rattle.subadd_closure.proofs.OrderedCurves.{time_before}
use Rattle.subadd_closure.proofs.ordered.periods_before.Goals as goal

pub returns : goal.returns
returns c =
    time_before c.args.from c.args.own c.in_ok-past.past c.in_ok-t.t c.args.count c.requires c.in_ok-past.ensures.value c.in_ok-t.ensures.value
    (subst (λ y. y ≤ℚ c.in_ok-t.t) c.zero.ensures (least_by_test _ _ c.if-is_less.ensures.less))
