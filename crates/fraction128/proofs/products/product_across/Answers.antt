use Rattle.std.proofs.Common.{rules, ◌≡◌, ap, ◌∙◌, to_z-of_z, SFits, pos, unsigned_abs}
use mir.Syntax.{w128}
use Rattle.rational.specs.Ratio.{ratio, with_sign}
use Rattle.fraction128.proofs.Multiplied.{IsProduct, product_sizes, small_product, product_as_lowest}
use Rattle.fraction128.proofs.products.product_across.Goals.{After-short_parts-size}
use Rattle.fraction128.proofs.products.product_across.Goals as goal

-- the lowest terms that the code finds
lowest : (c : After-short_parts-size) → IsProduct c.args.a c.args.d c.args.b c.args.e c.short_parts-size.result.0 c.short_parts-size.result.1
lowest c =
    let fa = c.ranges.a in
    let fb = c.ranges.b in
    let left : c.unsigned_abs-left.result ≡ unsigned_abs c.args.a = simp to_z-of_z at c.unsigned_abs-left.ensures.value in
    let right : c.unsigned_abs-right.result ≡ unsigned_abs c.args.b = simp to_z-of_z at c.unsigned_abs-right.ensures.value in
    rw (c.short_parts-size.ensures.top, c.short_parts-size.ensures.bottom, left, right) (product_sizes c.args.a c.args.b c.args.d c.args.e c.requires.left c.requires.right)

pub from_lowest-requires : goal.from_lowest-requires
from_lowest-requires c =
    let fa = c.ranges.a in let fb = c.ranges.b in
    let fz : SFits w128 c.with_sign.result = search rules in
    let is = lowest (goal.at.from_lowest-requires c).After-short_parts-size in
    let size = c.short_parts-size.ensures in
    simp to_z-of_z (product_as_lowest c.args.a c.args.b c.args.d c.args.e _ _ c.with_sign.result is size.top_size size.bottom_size (simp to_z-of_z at c.with_sign.ensures))

pub returns-then-e-lt-SHORT : goal.returns-then-e-lt-SHORT
returns-then-e-lt-SHORT c =
    let a = c.args.a in let b = c.args.b in let d = c.args.d in let e = c.args.e in
    let fa = c.ranges.a in
    let fb = c.ranges.b in
    let fz : SFits w128 c.with_sign.result = search rules in
    let is = lowest (goal.at.returns-then-e-lt-SHORT c).After-short_parts-size in
    let size = c.short_parts-size.ensures in
    let sign : c.with_sign.result ≡ with_sign a b c.short_parts-size.result.0 = simp to_z-of_z at c.with_sign.ensures in (
      c.from_lowest.ensures ∙ ap (λ z. ratio z (pos c.short_parts-size.result.1)) (to_z-of_z fz ∙ sign) ∙ is.value,
      small_product a b d e _ _ is size.top_size size.bottom_size,
    )
