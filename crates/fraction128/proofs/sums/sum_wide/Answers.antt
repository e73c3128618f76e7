use Rattle.std.proofs.Common.{rules, arith, ◌≡◌, ◌*◌, ◌*ℤ◌, ◌≤◌, ◌/◌, ◌<◌, ◌^◌, ◌+ℤ◌, ap, ◌∙◌, to_z-of_z, SFits, pos, unsigned_abs, refl}
use mir.Syntax.{w128}
use Rattle.rational.specs.Gcd.{gcd}
use Rattle.rational.specs.Euclid.{gcd_pos}
use Rattle.rational.specs.Ratio.{ratio}
use Rattle.fraction128.proofs.Values.{unfit_abs}
use Rattle.fraction128.proofs.Added.{IsSum, sum_parts, sum_wide, sum_as_lowest}
use Rattle.fraction128.proofs.sums.sum_wide.Goals.{After-quotient, In_ok-right}
use Rattle.fraction128.proofs.sums.sum_wide.Goals as goal

pub quotient-share-requires : goal.quotient-share-requires
quotient-share-requires c = rw c.gcd_of-common.ensures (gcd_pos _ c.args.e c.requires.right.some)

pub quotient-other-requires : goal.quotient-other-requires
quotient-other-requires c = rw c.gcd_of-common.ensures (gcd_pos _ c.args.e c.requires.right.some)

pub quotient-size-requires : goal.quotient-size-requires
quotient-size-requires c = rw (c.gcd_of-again.ensures, c.gcd_of-common.ensures) (gcd_pos _ _ (gcd_pos _ c.args.e c.requires.right.some))

pub quotient-requires : goal.quotient-requires
quotient-requires c = rw (c.gcd_of-again.ensures, c.gcd_of-common.ensures) (gcd_pos _ _ (gcd_pos _ c.args.e c.requires.right.some))

-- both products are those of the numbers
products : (c : In_ok-right) → (c.in_ok-left.left ≡ c.args.a *ℤ pos c.quotient-other.result) × (c.in_ok-right.right ≡ c.args.b *ℤ pos c.quotient-share.result)
products c =
    let fa = c.ranges.a in
    let fb = c.ranges.b in
    let fl : SFits w128 c.in_ok-left.left = search rules in
    let fr : SFits w128 c.in_ok-right.right = search rules in
    (simp to_z-of_z at c.in_ok-left.ensures, simp to_z-of_z at c.in_ok-right.ensures)

-- the lowest terms that the code finds
lowest : (c : After-quotient) → IsSum c.args.a c.args.d c.args.b c.args.e c.in_ok-sum.sum c.quotient-size.result (c.quotient-share.result * c.quotient.result)
lowest c =
    let fa = c.ranges.a in let fb = c.ranges.b in
    let fl : SFits w128 c.in_ok-left.left = search rules in
    let fr : SFits w128 c.in_ok-right.right = search rules in
    let ft : SFits w128 c.in_ok-sum.sum = search rules in
    sum_parts c.args.a c.args.b c.args.d c.args.e _ _ _ _ _ _ _ _ _ c.requires.left c.requires.right record {
      common_is = c.gcd_of-common.ensures;
      share_is = c.quotient-share.ensures;
      other_is = c.quotient-other.ensures;
      left_is = simp to_z-of_z at c.in_ok-left.ensures;
      right_is = simp to_z-of_z at c.in_ok-right.ensures;
      sum_is = (simp to_z-of_z at c.in_ok-sum.ensures).1;
      again_is = c.gcd_of-again.ensures ∙ ap (λ n. gcd n c.gcd_of-common.result) (simp to_z-of_z at c.unsigned_abs.ensures.value);
      size_is = c.quotient-size.ensures ∙ ap (λ n. n / c.gcd_of-again.result) (simp to_z-of_z at c.unsigned_abs-2.ensures.value);
      rest_is = c.quotient.ensures;
    }

pub returns-in_err-sum : goal.returns-in_err-sum
returns-in_err-sum c =
    let both = products (goal.at.returns-in_err-sum c).In_ok-right in
    let l = c.in_ok-left.left in
    let r = c.in_ok-right.right in
    let fl : SFits w128 l = search rules in
    let fr : SFits w128 r = search rules in
    let h : 2 ^ 127 ≤ unsigned_abs (l +ℤ r) = unfit_abs _ (simp to_z-of_z at c.in_err-sum.ensures) in
    rw c.from_residual-in_err-sum.ensures
    (sum_wide c.args.a c.args.b l r (l +ℤ r) c.args.d c.args.e _ _ _ c.gcd_of-common.ensures c.quotient-share.ensures c.quotient-other.ensures both.0 both.1 refl h)

pub returns-in_err-bottom : goal.returns-in_err-bottom
returns-in_err-bottom c =
    let is = lowest (goal.at.returns-in_err-bottom c).After-quotient in
    let h = c.in_err-bottom.ensures in
    rw c.from_residual-in_err-bottom.ensures (λ fit. omega (arith, is.below, fit.bottom, h))

pub returns-then-size-gt-LARGEST : goal.returns-then-size-gt-LARGEST
returns-then-size-gt-LARGEST c =
    let fl : SFits w128 c.in_ok-left.left = search rules in
    let fr : SFits w128 c.in_ok-right.right = search rules in
    let t = c.in_ok-sum.sum in
    let ft : SFits w128 t = search rules in
    let both = products (goal.at.returns-then-size-gt-LARGEST c).In_ok-right in
    let is = lowest (goal.at.returns-then-size-gt-LARGEST c).After-quotient in
    let h : 2 ^ 127 ≤ unsigned_abs t = omega (arith, is.less, c.if-size-gt-LARGEST.true) in
    sum_wide c.args.a c.args.b _ _ t c.args.d c.args.e _ _ _ c.gcd_of-common.ensures c.quotient-share.ensures c.quotient-other.ensures both.0 both.1
    (simp to_z-of_z at c.in_ok-sum.ensures).1 h

pub from_lowest-requires : goal.from_lowest-requires
from_lowest-requires c =
    let ft : SFits w128 c.in_ok-sum.sum = search rules in
    let fz : SFits w128 c.with_sign.result = search rules in
    let bottom = c.in_ok-bottom.ensures in
    let size : c.quotient-size.result < 2 ^ 127 = omega (arith, c.if-size-gt-LARGEST.false) in
    let is = rw (← bottom.0) at (lowest (goal.at.from_lowest-requires c).After-quotient) in
    simp to_z-of_z (sum_as_lowest c.args.a c.args.b c.args.d c.args.e c.in_ok-sum.sum _ _ c.with_sign.result is size bottom.1 (simp to_z-of_z at c.with_sign.ensures))

pub returns : goal.returns
returns c =
    let ft : SFits w128 c.in_ok-sum.sum = search rules in
    let fz : SFits w128 c.with_sign.result = search rules in
    let is = rw (← c.in_ok-bottom.ensures.0) at (lowest (goal.at.returns c).After-quotient) in
    c.from_lowest.ensures
    ∙ ap (λ z. ratio z (pos c.in_ok-bottom.bottom)) (to_z-of_z fz ∙ (simp to_z-of_z at c.with_sign.ensures)) ∙ is.value
