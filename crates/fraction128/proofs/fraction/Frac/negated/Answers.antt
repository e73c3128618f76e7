use Rattle.std.proofs.Common.{pos, ◌≡◌, ◌-ℤ◌, ◌∙◌, ap, to_z, of_z, to_z-of_z, SFits}
use Rattle.std.proofs.lemmas.Int.{fits_signed_from_abs}
use mir.Syntax.{w128}
use Rattle.rational.specs.Ratio.{ratio}
use Rattle.fraction128.proofs.Values.{num_fits}
use Rattle.fraction128.proofs.Turned.{negated_value, less_abs, less_is}
use Rattle.fraction128.proofs.fraction.Frac.negated.Goals as goal

pub returns : goal.returns
returns c =
    let n = c.self.inside.num in
    let d = c.self.inside.den in
    let fn : SFits w128 n = num_fits c.self.invariant in
    let fm : SFits w128 (pos 0 -ℤ n) = fits_signed_from_abs w128 (pos 0 -ℤ n) (less_abs n _ c.self.invariant.top) in
    let stored : to_z w128 (of_z w128 (pos 0 -ℤ to_z w128 (of_z w128 n))) ≡ pos 0 -ℤ n = simp to_z-of_z in
    ap (λ z. ratio z (pos d)) stored ∙ negated_value n d (pos 0 -ℤ n) c.args.self c.self.invariant.some c.self.view_is (less_is n)
