use Rattle.std.proofs.Common.{ap, ◌∙◌, to_z-of_z, SFits, pos}
use Rattle.std.proofs.lemmas.Int.{fits_signed_from_abs}
use mir.Syntax.{w128}
use Rattle.rational.specs.Ratio.{ratio}
use Rattle.fraction128.proofs.Values.{parts_lowest, parts_value}
use Rattle.fraction128.proofs.fitting.product_apart.Goals as goal

pub from_lowest-requires : goal.from_lowest-requires
from_lowest-requires c =
    let fits : SFits w128 c.numerator-top.result = fits_signed_from_abs w128 c.numerator-top.result c.numerator-top.ensures.size in
    simp to_z-of_z (parts_lowest c.product_of_parts-found.result _ _ c.numerator-top.ensures.value c.denominator-bottom.ensures.value c.numerator-top.ensures.size c.denominator-bottom.ensures.size)

pub returns : goal.returns
returns c =
    let fits : SFits w128 c.numerator-top.result = fits_signed_from_abs w128 c.numerator-top.result c.numerator-top.ensures.size in
    c.from_lowest.ensures
    ∙ ap (λ z. ratio z (pos c.denominator-bottom.result)) (to_z-of_z fits)
    ∙ parts_value c.product_of_parts-found.result _ _ c.numerator-top.ensures.value c.denominator-bottom.ensures.value
    ∙ c.product_of_parts-found.ensures
