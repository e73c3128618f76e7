use Rattle.std.proofs.Common.{rules, arith, ◌*◌, ◌/◌, ◌<◌, ◌≤◌, ◌^◌, ap, ◌∙◌, to_z-of_z, SFits, pos, unsigned_abs, refl}
use mir.Syntax.{w128}
use native.Mathlib.Nat.{div-le_self, mul-le-mul_left, mul-le-mul_right}
use Rattle.rational.specs.Gcd.{gcd}
use Rattle.rational.specs.Euclid.{gcd_pos}
use Rattle.rational.specs.Ratio.{ratio}
use Rattle.fraction128.proofs.Added.{IsSum, sum_parts, sum_as_lowest}
use Rattle.fraction128.proofs.sums.short_sum.Goals.{After-quotient-rest}
use Rattle.fraction128.proofs.sums.short_sum.Goals as goal

pub short_quotient-share-requires : goal.short_quotient-share-requires
short_quotient-share-requires c = rw c.short_common-common.ensures (gcd_pos _ c.args.e c.requires.right.some)

pub short_quotient-other-requires : goal.short_quotient-other-requires
short_quotient-other-requires c = rw c.short_common-common.ensures (gcd_pos _ c.args.e c.requires.right.some)

pub short_cross-sum-requires-clause-left_factor : goal.short_cross-sum-requires-clause-left_factor
short_cross-sum-requires-clause-left_factor c =
    let l = div-le_self c.args.e c.short_common-common.result in omega (arith, l, c.short_quotient-other.ensures, c.requires.other_bottom)

pub short_cross-sum-requires-clause-right_factor : goal.short_cross-sum-requires-clause-right_factor
short_cross-sum-requires-clause-right_factor c =
    let l = div-le_self c.args.d c.short_common-common.result in omega (arith, l, c.short_quotient-share.ensures, c.requires.bottom)

pub quotient-size-requires : goal.quotient-size-requires
quotient-size-requires c = rw (c.gcd_of-again.ensures, c.short_common-common.ensures) (gcd_pos _ _ (gcd_pos _ c.args.e c.requires.right.some))

pub quotient-rest-requires : goal.quotient-rest-requires
quotient-rest-requires c = rw (c.gcd_of-again.ensures, c.short_common-common.ensures) (gcd_pos _ _ (gcd_pos _ c.args.e c.requires.right.some))

-- the lowest terms that the code finds
lowest : (c : After-quotient-rest) → IsSum c.args.a c.args.d c.args.b c.args.e c.short_cross-sum.result c.quotient-size.result (c.short_quotient-share.result * c.quotient-rest.result)
lowest c =
    let fa = c.ranges.a in let fb = c.ranges.b in
    let ft : SFits w128 c.short_cross-sum.result = search rules in
    sum_parts c.args.a c.args.b c.args.d c.args.e _ _ _ _ _ _ _ _ _ c.requires.left c.requires.right record {
      common_is = c.short_common-common.ensures;
      share_is = c.short_quotient-share.ensures;
      other_is = c.short_quotient-other.ensures;
      left_is = refl;
      right_is = refl;
      sum_is = simp to_z-of_z at c.short_cross-sum.ensures.value;
      again_is = c.gcd_of-again.ensures ∙ ap (λ n. gcd n c.short_common-common.result) (simp to_z-of_z at c.unsigned_abs.ensures.value);
      size_is = c.quotient-size.ensures ∙ ap (λ n. n / c.gcd_of-again.result) (simp to_z-of_z at c.unsigned_abs-2.ensures.value);
      rest_is = c.quotient-rest.ensures;
    }

-- the denominator is no larger than the least common one
bottom_less : (c : After-quotient-rest) → c.short_quotient-share.result * c.quotient-rest.result < 2 ^ 127
bottom_less c =
    let below = (lowest c).below in
    let x = div-le_self c.args.d c.short_common-common.result in
    let y = div-le_self c.args.e c.gcd_of-again.result in
    let u : c.short_quotient-share.result ≤ 2 ^ 63 = omega (arith, x, c.short_quotient-share.ensures, c.requires.bottom) in
    let v : c.quotient-rest.result ≤ 2 ^ 63 = omega (arith, y, c.quotient-rest.ensures, c.requires.other_bottom) in
    let one = mul-le-mul_left c.short_quotient-share.result v in
    let two = mul-le-mul_right (2 ^ 63) u in
    omega (arith, one, two)

pub overflow_mul-share : goal.overflow_mul-share
overflow_mul-share c = let less = bottom_less (goal.at.overflow_mul-share c).After-quotient-rest in omega (arith, less)

pub from_lowest-requires : goal.from_lowest-requires
from_lowest-requires c =
    let fa = c.ranges.a in let fb = c.ranges.b in
    let ft : SFits w128 c.short_cross-sum.result = search rules in
    let fz : SFits w128 c.with_sign.result = search rules in
    let is = lowest (goal.at.from_lowest-requires c).After-quotient-rest in
    let bottom = bottom_less (goal.at.from_lowest-requires c).After-quotient-rest in
    let less = is.less in
    let top : unsigned_abs c.short_cross-sum.result < 2 ^ 127 = c.short_cross-sum.ensures.size in
    let size : c.quotient-size.result < 2 ^ 127 = omega (arith, less, top) in
    simp to_z-of_z (sum_as_lowest c.args.a c.args.b c.args.d c.args.e c.short_cross-sum.result _ _ c.with_sign.result is size bottom (simp to_z-of_z at c.with_sign.ensures))

pub returns : goal.returns
returns c =
    let fa = c.ranges.a in let fb = c.ranges.b in
    let ft : SFits w128 c.short_cross-sum.result = search rules in
    let fz : SFits w128 c.with_sign.result = search rules in
    let is = lowest (goal.at.returns c).After-quotient-rest in
    c.from_lowest.ensures
    ∙ ap (λ z. ratio z (pos (c.short_quotient-share.result * c.quotient-rest.result))) (to_z-of_z fz ∙ (simp to_z-of_z at c.with_sign.ensures)) ∙ is.value
