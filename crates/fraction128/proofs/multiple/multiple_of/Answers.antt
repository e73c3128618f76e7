use Rattle.std.proofs.Common.{arith, ◌≡◌, ◌∙◌, ◌*◌, ◌/◌, ap, ap₂, sym, subst, pos, to_z, ℤ, ℕ}
use Rattle.std.proofs.lemmas.Int.{to_z_pos}
use mir.Syntax.{w128}
use Rattle.rational.specs.Gcd.{gcd}
use Rattle.rational.specs.Euclid.{gcd_pos}
use Rattle.rational.specs.Gauge.{lcm}
use Rattle.rational.specs.Rational.{over}
use Rattle.rational.specs.Ratio.{ratio}
use Rattle.fraction128.specs.Parts.{AreLowest}
use Rattle.fraction128.proofs.Values.{small_of}
use Rattle.fraction128.proofs.CommonMultiple.{multiple_lowest, multiple_small, multiple_as_lowest, over_ratio}
use Rattle.fraction128.proofs.multiple.multiple_of.Goals as goal

pub quotient-requires : goal.quotient-requires
quotient-requires c = rw c.gcd_of.ensures (gcd_pos c.args.p c.args.r c.requires.right_some)

pub returns-in_err-top : goal.returns-in_err-top
returns-in_err-top c =
    let p = c.args.p in let q = c.args.q in let r = c.args.r in let s = c.args.s in
    let is : c.quotient.result * r ≡ lcm p r = ap (λ n. n * r) (c.quotient.ensures ∙ ap (λ g. p / g) c.gcd_of.ensures) in
    let one = multiple_lowest p q r s c.requires.left.lowest c.requires.right.lowest in
    let h = c.in_err-top.ensures in
    rw c.from_residual.ensures (λ small. let l = multiple_small (lcm p r) (gcd q s) (gcd_pos q s c.requires.right.some) one small in omega (arith, l, h, is))

pub from_lowest-requires : goal.from_lowest-requires
from_lowest-requires c =
    let p = c.args.p in let q = c.args.q in let r = c.args.r in let s = c.args.s in
    let top = c.in_ok-top.ensures in
    let is : c.in_ok-top.top ≡ lcm p r = top.0 ∙ ap (λ n. n * r) (c.quotient.ensures ∙ ap (λ g. p / g) c.gcd_of.ensures) in
    subst (λ (z : ℤ). AreLowest z c.gcd_of-2.result) (sym (to_z_pos w128 c.in_ok-top.top top.1))
    (multiple_as_lowest p q r s _ _ c.requires.left c.requires.right is c.gcd_of-2.ensures top.1)

pub returns : goal.returns
returns c =
    let p = c.args.p in let q = c.args.q in let r = c.args.r in let s = c.args.s in
    let top = c.in_ok-top.ensures in
    let is : c.in_ok-top.top ≡ lcm p r = top.0 ∙ ap (λ n. n * r) (c.quotient.ensures ∙ ap (λ g. p / g) c.gcd_of.ensures) in
    let low = multiple_as_lowest p q r s _ _ c.requires.left c.requires.right is c.gcd_of-2.ensures top.1 in
    let value : ratio (to_z w128 c.in_ok-top.top) (pos c.gcd_of-2.result) ≡ over (pos (lcm p r)) (gcd q s) =
    ap₂ (λ (z : ℤ) (k : ℕ). ratio z (pos k)) (to_z_pos w128 c.in_ok-top.top top.1 ∙ ap pos is) c.gcd_of-2.ensures ∙ over_ratio (pos (lcm p r)) (gcd q s) in (
      c.from_lowest.ensures ∙ value,
      small_of _ _ _ low (ap (λ z. ratio z (pos c.gcd_of-2.result)) (sym (to_z_pos w128 c.in_ok-top.top top.1)) ∙ value),
    )
