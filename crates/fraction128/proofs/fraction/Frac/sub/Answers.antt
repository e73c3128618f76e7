use Rattle.std.proofs.Common.{◌∙◌, SFits, to_z-of_z}
use mir.Syntax.{w128}
use Rattle.fraction128.proofs.Values.{num_fits, stored_value}
use Rattle.fraction128.proofs.Added.{fits_fields}
use Rattle.fraction128.proofs.Turned.{difference_is}
use Rattle.fraction128.proofs.fraction.Frac.sub.Goals as goal

pub returns-in-None-clause-fits : goal.returns-in-None-clause-fits
returns-in-None-clause-fits c =
    let fa : SFits w128 c.a.inside.num = num_fits c.a.invariant in
    let fb : SFits w128 c.turned.inside.num = num_fits c.turned.invariant in
    let wide = simp to_z-of_z at c.in-None.ensures in
    λ fit. absurd (wide (fits_fields _ _ _ _ _ _ c.a.invariant c.turned.invariant c.a.view_is (c.turned.view_is ∙ c.negated-turned.ensures) fit))

pub returns-in-Some-clause-value : goal.returns-in-Some-clause-value
returns-in-Some-clause-value c =
    c.in-Some.ensures ∙ difference_is _ _ c.args.a c.args.b (stored_value c.a.invariant c.a.view_is) (stored_value c.turned.invariant (c.turned.view_is ∙ c.negated-turned.ensures))
