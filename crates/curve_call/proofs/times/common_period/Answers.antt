use Rattle.std.proofs.Common.{◌≡◌, ◌∙◌, ap, ap₂, sym, subst, refl}
use Rattle.std.specs.Prelude.{None, Some, Option, IfSome, IsSome}
use Rattle.rational.specs.Rational.{ℚ}
use Rattle.rational.specs.Ratio.{IsSmall}
use Rattle.upp_limits.specs.Periods.{own_period, common_period, common_of, period_of}
use Rattle.curve_call.proofs.times.common_period.Goals as goal

none_first : (o : Option ℚ) → common_of o None ≡ common_of None o
none_first None = refl
none_first (Some p) = refl

pub returns-in-None-clause-value : goal.returns-in-None-clause-value
unfolding common_period own_period
returns-in-None-clause-value c =
    c.own_period.ensures.value ∙ none_first (period_of c.args.g.now.tail) ∙ ap (λ o. common_of o (period_of c.args.g.now.tail)) (sym c.in-None.is ∙ c.period_of.ensures.value)

pub returns-in-None-period_of-clause-value : goal.returns-in-None-period_of-clause-value
unfolding common_period
returns-in-None-period_of-clause-value c =
    ap₂ common_of (sym c.in-Some.is ∙ c.period_of.ensures.value) (sym c.in-None-period_of.is ∙ c.period_of-in-Some.ensures.value)

pub returns-in-Some-period_of-clause-value : goal.returns-in-Some-period_of-clause-value
unfolding common_period
returns-in-Some-period_of-clause-value c =
    subst (λ (x : ℚ). IfSome c.least_multiple.result (λ d. d ≡ x))
    (ap₂ common_of (sym c.in-Some.is ∙ c.period_of.ensures.value) (sym c.in-Some-period_of.is ∙ c.period_of-in-Some.ensures.value)) c.least_multiple.ensures.value

pub returns-in-Some-period_of-clause-fits : goal.returns-in-Some-period_of-clause-fits
unfolding common_period
returns-in-Some-period_of-clause-fits c =
    subst (λ (x : ℚ). IsSmall x → IsSome c.least_multiple.result)
    (ap₂ common_of (sym c.in-Some.is ∙ c.period_of.ensures.value) (sym c.in-Some-period_of.is ∙ c.period_of-in-Some.ensures.value)) c.least_multiple.ensures.fits
