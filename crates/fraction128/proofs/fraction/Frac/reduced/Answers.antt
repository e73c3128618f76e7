use Rattle.std.proofs.Common.{rules, ◌≡◌, ◌∙◌, ap, ap₂, SFits, to_z-of_z, pos, ℤ, ℕ, unsigned_abs}
use mir.Syntax.{w128}
use Rattle.rational.specs.Euclid.{gcd_pos}
use Rattle.rational.specs.Ratio.{ratio, with_sign}
use Rattle.fraction128.proofs.Made.{reduced_lowest_parts, reduced_value}
use Rattle.fraction128.proofs.fraction.Frac.reduced.Goals as goal

pub quotient-requires : goal.quotient-requires
quotient-requires c = rw c.gcd_of-common.ensures (gcd_pos _ c.args.den c.requires.some)

pub quotient-requires-2 : goal.quotient-requires-2
quotient-requires-2 c = rw c.gcd_of-common.ensures (gcd_pos _ c.args.den c.requires.some)

pub invariant_of-result : goal.invariant_of-result
invariant_of-result c =
    let fn = c.ranges.num in
    let fs : SFits w128 c.with_sign.result = search rules in
    let size : c.unsigned_abs-size.result ≡ unsigned_abs c.args.num = simp to_z-of_z at c.unsigned_abs-size.ensures.value in
    rw c.quotient-2.ensures (simp to_z-of_z (reduced_lowest_parts c.args.num c.args.den _ _ c.with_sign.result c.requires.some c.requires.top c.requires.bottom size c.gcd_of-common.ensures
    ((simp to_z-of_z at c.with_sign.ensures) ∙ ap (with_sign c.args.num (pos 1)) c.quotient.ensures)))

pub returns : goal.returns
returns c =
    let fn = c.ranges.num in
    let fs : SFits w128 c.with_sign.result = search rules in
    let size : c.unsigned_abs-size.result ≡ unsigned_abs c.args.num = simp to_z-of_z at c.unsigned_abs-size.ensures.value in
    ap₂ (λ (z : ℤ) (k : ℕ). ratio z (pos k)) (to_z-of_z fs) c.quotient-2.ensures
    ∙ reduced_value c.args.num c.args.den _ _ c.with_sign.result c.requires.some size c.gcd_of-common.ensures
    ((simp to_z-of_z at c.with_sign.ensures) ∙ ap (with_sign c.args.num (pos 1)) c.quotient.ensures)
