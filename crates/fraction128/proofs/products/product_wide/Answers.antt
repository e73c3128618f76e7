use Rattle.std.proofs.Common.{rules, arith, ◌≡◌, ℕ, ◌*◌, ◌/◌, ap, ◌∙◌, to_z-of_z, SFits, pos, refl}
use mir.Syntax.{w128}
use Rattle.rational.specs.Euclid.{gcd_pos}
use Rattle.rational.specs.Ratio.{ratio, with_sign}
use Rattle.fraction128.proofs.Multiplied.{IsProduct, product_parts, product_small, small_product, product_as_lowest}
use Rattle.fraction128.proofs.products.product_wide.Goals.{After-quotient-2}
use Rattle.fraction128.proofs.products.product_wide.Goals as goal

pub quotient-requires : goal.quotient-requires
quotient-requires c = rw c.gcd_of-first.ensures (gcd_pos _ c.args.e c.requires.right.some)

pub quotient-requires-2 : goal.quotient-requires-2
quotient-requires-2 c = rw c.gcd_of-second.ensures (gcd_pos _ c.args.d c.requires.left.some)

pub quotient-requires-3 : goal.quotient-requires-3
quotient-requires-3 c = rw c.gcd_of-second.ensures (gcd_pos _ c.args.d c.requires.left.some)

pub quotient-requires-4 : goal.quotient-requires-4
quotient-requires-4 c = rw c.gcd_of-first.ensures (gcd_pos _ c.args.e c.requires.right.some)

-- the lowest terms that the code finds, once the denominators are divided
lowest_by : (c : After-quotient-2) (u v : ℕ) → u ≡ c.args.d / c.gcd_of-second.result → v ≡ c.args.e / c.gcd_of-first.result
    → IsProduct c.args.a c.args.d c.args.b c.args.e (c.quotient.result * c.quotient-2.result) (u * v)
lowest_by c u v u_is v_is =
    let fa = c.ranges.a in
    let fb = c.ranges.b in
    product_parts c.args.a c.args.b c.args.d c.args.e _ _ _ _ _ _ u v c.requires.left c.requires.right record {
      left_is = simp to_z-of_z at c.unsigned_abs-left.ensures.value;
      right_is = simp to_z-of_z at c.unsigned_abs-right.ensures.value;
      first_is = c.gcd_of-first.ensures;
      second_is = c.gcd_of-second.ensures;
      x_is = c.quotient.ensures;
      y_is = c.quotient-2.ensures;
      u_is = u_is;
      v_is = v_is;
    }

pub returns-in_err-size : goal.returns-in_err-size
returns-in_err-size c =
    let h = c.in_err-size.ensures in
    let is = lowest_by (goal.at.returns-in_err-size c).After-quotient-2 _ _ refl refl in
    rw c.from_residual.ensures (λ small. let s = product_small c.args.a c.args.b c.args.d c.args.e _ _ is small in omega (arith, s, h))

pub returns-in_err-bottom : goal.returns-in_err-bottom
returns-in_err-bottom c =
    let h = c.in_err-bottom.ensures in
    let is = lowest_by (goal.at.returns-in_err-bottom c).After-quotient-2 _ _ c.quotient-3.ensures c.quotient-4.ensures in
    rw c.from_residual-in_err-bottom.ensures (λ small. let s = product_small c.args.a c.args.b c.args.d c.args.e _ _ is small in omega (arith, s, h))

pub from_lowest-requires : goal.from_lowest-requires
from_lowest-requires c =
    let a = c.args.a in let b = c.args.b in let d = c.args.d in let e = c.args.e in
    let fa = c.ranges.a in
    let fb = c.ranges.b in
    let fz : SFits w128 c.with_sign.result = search rules in
    let size = c.in_ok-size.ensures in
    let bottom = c.in_ok-bottom.ensures in
    let is : IsProduct a d b e c.in_ok-size.size c.in_ok-bottom.bottom = rw (size.0, bottom.0) (lowest_by (goal.at.from_lowest-requires c).After-quotient-2 _ _ c.quotient-3.ensures c.quotient-4.ensures) in
    simp to_z-of_z (product_as_lowest a b d e _ _ c.with_sign.result is size.1 bottom.1 (simp to_z-of_z at c.with_sign.ensures))

pub returns : goal.returns
returns c =
    let a = c.args.a in let b = c.args.b in let d = c.args.d in let e = c.args.e in
    let fa = c.ranges.a in
    let fb = c.ranges.b in
    let fz : SFits w128 c.with_sign.result = search rules in
    let is : IsProduct a d b e c.in_ok-size.size c.in_ok-bottom.bottom =
    rw (c.in_ok-size.ensures.0, c.in_ok-bottom.ensures.0) (lowest_by (goal.at.returns c).After-quotient-2 _ _ c.quotient-3.ensures c.quotient-4.ensures) in
    let sign : c.with_sign.result ≡ with_sign a b c.in_ok-size.size = simp to_z-of_z at c.with_sign.ensures in (
      c.from_lowest.ensures ∙ ap (λ z. ratio z (pos c.in_ok-bottom.bottom)) (to_z-of_z fz ∙ sign) ∙ is.value,
      small_product a b d e _ _ is c.in_ok-size.ensures.1 c.in_ok-bottom.ensures.1,
    )
