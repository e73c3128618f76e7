use Rattle.std.proofs.Common.{SFits, to_z-of_z}
use mir.Syntax.{w128}
use Rattle.fraction128.proofs.Values.{num_fits, same_fields}
use Rattle.fraction128.proofs.Compared.{same_test}
use Rattle.fraction128.proofs.fraction.FracPartialEq.eq.Goals as goal

pub returns-clause-same : goal.returns-clause-same
returns-clause-same c =
    let fa : SFits w128 c.self.inside.num = num_fits c.self.invariant in
    let fb : SFits w128 c.other.inside.num = num_fits c.other.invariant in
    let is = simp to_z-of_z at c.are_same.ensures in
    let same = same_fields _ _ _ _ _ _ c.self.invariant c.other.invariant c.self.view_is c.other.view_is in
    (λ h. same.0 (is.0 h), λ h. is.1 (same.1 h))

pub returns-clause-is : goal.returns-clause-is
returns-clause-is c =
    let fa : SFits w128 c.self.inside.num = num_fits c.self.invariant in
    let fb : SFits w128 c.other.inside.num = num_fits c.other.invariant in
    let is = simp to_z-of_z at c.are_same.ensures in
    let same = same_fields _ _ _ _ _ _ c.self.invariant c.other.invariant c.self.view_is c.other.view_is in
    same_test c.args.self.now c.args.other.now c.are_same.result (λ h. same.0 (is.0 h), λ h. is.1 (same.1 h))
