use Rattle.std.proofs.Common.{SFits, to_z-of_z}
use mir.Syntax.{w128}
use Rattle.fraction128.proofs.Values.{num_fits}
use Rattle.fraction128.proofs.Added.{fits_fields}
use Rattle.fraction128.proofs.fraction.Frac.add.Goals as goal

pub returns-in-None-clause-fits : goal.returns-in-None-clause-fits
returns-in-None-clause-fits c =
    let fa : SFits w128 c.a.inside.num = num_fits c.a.invariant in
    let fb : SFits w128 c.b.inside.num = num_fits c.b.invariant in
    let wide = simp to_z-of_z at c.in-None.ensures in
    λ fit. absurd (wide (fits_fields _ _ _ _ _ _ c.a.invariant c.b.invariant c.a.view_is c.b.view_is fit))
