use Rattle.std.proofs.Common.{subst}
use Rattle.rational.specs.Rational.{◌<ℚ◌, ◌≤ℚ◌}
use Rattle.rational.proofs.Compared.{not_less_out}
use Rattle.upp_limits.proofs.Rounding.{reach_exact, reach_over, reach_none}
use Rattle.upp_limits.proofs.gauges.reach.Goals as goal

pub returns-then-is_less-clause-value : goal.returns-then-is_less-clause-value
returns-then-is_less-clause-value c = reach_none c.args.steepness c.args.end (subst (λ z. c.args.end <ℚ z) c.zero.ensures (c.is_less.ensures.less.0 c.if-is_less.true))

pub returns-in-None-clause-nonneg : goal.returns-in-None-clause-nonneg
returns-in-None-clause-nonneg c =
    subst (λ z. z ≤ℚ c.args.end) c.zero.ensures (not_less_out c.is_less.result c.args.end c.zero.result c.is_less.ensures.less c.if-is_less.false)

pub returns-in-Some-clause-value : goal.returns-in-Some-clause-value
returns-in-Some-clause-value c =
    let some = subst (λ z. z ≤ℚ c.args.end) c.zero.ensures (not_less_out c.is_less.result c.args.end c.zero.result c.is_less.ensures.less c.if-is_less.false) in
    reach_exact c.args.steepness c.in-Some.product c.sizes-top.result.0 c.sizes-top.result.1 c.args.end some c.in-Some.ensures.1
    c.sizes-top.ensures.top c.sizes-top.ensures.bottom c.if-product-bottom-eq0.true

pub returns-in-Some-2-clause-value : goal.returns-in-Some-2-clause-value
returns-in-Some-2-clause-value c =
    let some = subst (λ z. z ≤ℚ c.args.end) c.zero.ensures (not_less_out c.is_less.result c.args.end c.zero.result c.is_less.ensures.less c.if-is_less.false) in
    reach_over c.args.steepness c.in-Some.product c.sizes-top.result.0 c.sizes-top.result.1 c.args.end some c.in-Some.ensures.1
    c.sizes-top.ensures.top c.sizes-top.ensures.bottom c.if-product-bottom-eq0.false
