use Rattle.std.proofs.Common.{◌≡◌, ◌∙◌, ap, SFits, to_z, of_z, to_z-of_z, pos, ◌-ℤ◌, neg_ℤ}
use Rattle.std.proofs.lemmas.Int.{fits_signed_from_abs}
use mir.Syntax.{w128}
use Rattle.rational.specs.Floor.{floor, ceil}
use Rattle.fraction128.proofs.Turned.{less_is, less_abs}
use Rattle.fraction128.proofs.fraction.Frac.ceil.Goals as goal

pub returns-clause-value : goal.returns-clause-value
unfolding ceil
returns-clause-value c =
    let f = c.floor.result in
    let ff : SFits w128 f = fits_signed_from_abs w128 f c.floor.ensures.size in
    let fm : SFits w128 (pos 0 -ℤ f) = fits_signed_from_abs w128 (pos 0 -ℤ f) (less_abs f _ c.floor.ensures.size) in
    let stored : to_z w128 (of_z w128 (pos 0 -ℤ to_z w128 (of_z w128 f))) ≡ pos 0 -ℤ f = simp to_z-of_z in
    stored ∙ less_is f ∙ ap neg_ℤ (c.floor.ensures.value ∙ ap floor c.negated.ensures)
