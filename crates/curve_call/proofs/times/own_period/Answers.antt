use Rattle.std.proofs.Common.{◌∙◌, ap, sym}
use Rattle.std.specs.Prelude.{None}
use Rattle.upp_limits.specs.Periods.{own_period, common_of}
use Rattle.curve_call.proofs.times.own_period.Goals as goal

pub returns-in-Some-clause-value : goal.returns-in-Some-clause-value
unfolding own_period
returns-in-Some-clause-value c = ap (λ o. common_of o None) (sym c.in-Some.is ∙ c.period_of.ensures.value)

pub returns-in-None-clause-value : goal.returns-in-None-clause-value
unfolding own_period
returns-in-None-clause-value c = c.one.ensures ∙ ap (λ o. common_of o None) (sym c.in-None.is ∙ c.period_of.ensures.value)
