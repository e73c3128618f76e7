use Rattle.std.proofs.Common.{◌∙◌, sym, refl, subst}
use Rattle.rational.specs.Ratio.{IsSmall}
use Rattle.fraction128.proofs.Values.{stored_value}
use Rattle.fraction128.proofs.Turned.{quotient_is}
use Rattle.fraction128.proofs.fraction.Frac.div.Goals as goal

pub returns-in-None-clause-fits : goal.returns-in-None-clause-fits
returns-in-None-clause-fits c =
    let is = quotient_is _ _ c.args.a c.args.b (stored_value c.a.invariant c.a.view_is) (stored_value c.turned.invariant (c.turned.view_is ∙ c.recip-turned.ensures)) in
    (λ e. cc, λ h. absurd (c.in-None.ensures (subst IsSmall (sym is) h)))

pub returns-in-Some-clause-value : goal.returns-in-Some-clause-value
returns-in-Some-clause-value c =
    let exact = c.in-Some.ensures in
    exact.0 ∙ quotient_is _ _ c.args.a c.args.b (stored_value c.a.invariant c.a.view_is) (stored_value c.turned.invariant (c.turned.view_is ∙ c.recip-turned.ensures))

pub returns-in-Some-clause-fits : goal.returns-in-Some-clause-fits
returns-in-Some-clause-fits c =
    let exact = c.in-Some.ensures in
    let is = quotient_is _ _ c.args.a c.args.b (stored_value c.a.invariant c.a.view_is) (stored_value c.turned.invariant (c.turned.view_is ∙ c.recip-turned.ensures)) in
    (λ _. subst IsSmall is exact.1, λ _. refl)
