use Rattle.std.proofs.Common.{refl, subst}
use Rattle.rational.specs.Rational.{◌≤ℚ◌, ◌<ℚ◌}
use Rattle.sim_servers.proofs.station.next_after_work.Goals as goal
use Rattle.rational.proofs.Compared.{least_by_test}

pub returns-then-not-is_less-clause-next : goal.returns-then-not-is_less-clause-next
returns-then-not-is_less-clause-next c =
    (refl, refl, subst (λ z. c.args.left ≤ℚ z) c.zero.ensures (least_by_test c.zero.result c.args.left c.if-not-is_less.ensures.less), c.requires.over)

pub returns-clause-next : goal.returns-clause-next
returns-clause-next c =
    (refl, refl, subst (λ z. z <ℚ c.args.left) c.zero.ensures (c.if-not-is_less.ensures.less.0 refl), c.opens.ensures.opens, c.opens.ensures.opened)
