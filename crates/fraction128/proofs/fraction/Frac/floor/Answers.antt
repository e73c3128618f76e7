use Rattle.std.proofs.Common.{rules, ◌∙◌, sym, SFits, to_z-of_z}
use mir.Syntax.{w128}
use Rattle.fraction128.proofs.Values.{num_fits}
use Rattle.fraction128.proofs.Rounded.{floor_is}
use Rattle.fraction128.proofs.fraction.Frac.floor.Goals as goal

pub returns-clause-value : goal.returns-clause-value
returns-clause-value c =
    let fn : SFits w128 c.self.inside.num = num_fits c.self.invariant in
    let ff : SFits w128 c.whole_and_rest.result.0 = search rules in
    to_z-of_z ff ∙ sym (floor_is _ _ _ _ c.args.self c.self.invariant.some c.self.view_is (simp to_z-of_z at c.whole_and_rest.ensures.parts))
