use Rattle.std.proofs.Common.{◌∙◌, ap, sym, pos, SFits, to_z-of_z}
use Rattle.std.proofs.lemmas.Int.{fits_signed_from_abs}
use mir.Syntax.{w128}
use Rattle.rational.specs.Rational.{int}
use Rattle.fraction128.proofs.Values.{num_fits}
use Rattle.fraction128.proofs.Rounded.{whole_part_below, whole_part_from, below_out, from_out}
use Rattle.fraction128.proofs.fraction.Frac.whole_part.Goals as goal

pub returns-then-self-lt0 : goal.returns-then-self-lt0
returns-then-self-lt0 c =
    let n = c.self.inside.num in
    let fn : SFits w128 n = num_fits c.self.invariant in
    c.zero.ensures ∙ ap (λ k. int (pos k)) (sym (whole_part_below n _ c.args.self c.self.invariant c.self.view_is (below_out n (simp to_z-of_z at c.if-self-lt0.true))))

pub returns : goal.returns
returns c =
    let n = c.self.inside.num in
    let fn : SFits w128 n = num_fits c.self.invariant in
    let ff : SFits w128 c.floor.result = fits_signed_from_abs w128 c.floor.result c.floor.ensures.size in
    c.from_whole.ensures ∙ ap int (to_z-of_z ff ∙ c.floor.ensures.value ∙ whole_part_from n _ c.args.self c.self.invariant c.self.view_is (from_out n (simp to_z-of_z at c.if-self-lt0.false)))
