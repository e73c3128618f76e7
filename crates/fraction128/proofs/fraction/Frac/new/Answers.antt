use Rattle.std.proofs.Common.{rules, arith, refl, ◌≡◌, ◌∙◌, ap, ap₂, ℤ, ℕ, pos, SFits, to_z-of_z}
use mir.Syntax.{w128}
use Rattle.rational.specs.Ratio.{ratio, with_sign}
use Rattle.fraction128.proofs.Made.{Made, made, small_in, small_out, lowest_in, same_value}
use Rattle.fraction128.proofs.fraction.Frac.new.Goals.{After-gcd_of-common, After-with_sign}
use Rattle.fraction128.proofs.fraction.Frac.new.Goals as goal

all : (c : After-gcd_of-common) → Made c.args.num c.args.den c.unsigned_abs-top.result c.unsigned_abs-bottom.result c.gcd_of-common.result
all c = made c.args.num c.args.den _ _ _ c.ranges.num c.ranges.den c.if-den-eq0.false c.unsigned_abs-top.ensures.value c.unsigned_abs-bottom.ensures.value c.gcd_of-common.ensures

sign : (c : After-with_sign) → c.with_sign.result ≡ with_sign c.args.num c.args.den c.quotient-size.result
sign c =
    let fn = c.ranges.num in
    let fd = c.ranges.den in
    let fz : SFits w128 c.with_sign.result = search rules in
    simp to_z-of_z at c.with_sign.ensures

pub quotient-size-requires : goal.quotient-size-requires
quotient-size-requires c = (all (goal.at.quotient-size-requires c).After-gcd_of-common).some

pub quotient-whole-requires : goal.quotient-whole-requires
quotient-whole-requires c = (all (goal.at.quotient-whole-requires c).After-gcd_of-common).some

pub returns-then-size-gt-LARGEST-clause-big : goal.returns-then-size-gt-LARGEST-clause-big
returns-then-size-gt-LARGEST-clause-big c =
    let m = all (goal.at.returns-then-size-gt-LARGEST-clause-big c).After-gcd_of-common in
    let n = c.quotient-size.ensures in
    let d = c.quotient-whole.ensures in
    (λ _. (m.nonzero, λ h. let out = small_out _ _ _ _ _ m h in omega (arith, out, n, d, c.then-size-gt-LARGEST.either)), λ _. refl)

pub invariant_of-result : goal.invariant_of-result
invariant_of-result c =
    let m = all (goal.at.invariant_of-result c).After-gcd_of-common in
    let n = c.quotient-size.ensures in
    let d = c.quotient-whole.ensures in
    let fn = c.ranges.num in let fd = c.ranges.den in
    let fz : SFits w128 c.with_sign.result = search rules in
    let signed = sign (goal.at.invariant_of-result c).After-with_sign in
    rw d (simp to_z-of_z (lowest_in _ _ _ _ _ _ m (omega (arith, n, c.if-size-gt-LARGEST.false)) (omega (arith, d, c.if-whole-gt-LARGEST.false)) (signed ∙ ap (with_sign c.args.num c.args.den) n)))

pub returns-clause-big : goal.returns-clause-big
returns-clause-big c =
    let m = all (goal.at.returns-clause-big c).After-gcd_of-common in
    let n = c.quotient-size.ensures in
    let d = c.quotient-whole.ensures in
    (λ e. cc, λ h. absurd (h.1 (small_in _ _ _ _ _ m (omega (arith, n, c.if-size-gt-LARGEST.false)) (omega (arith, d, c.if-whole-gt-LARGEST.false)))))

pub returns-clause-value : goal.returns-clause-value
returns-clause-value c =
    let m = all (goal.at.returns-clause-value c).After-gcd_of-common in
    let n = c.quotient-size.ensures in
    let d = c.quotient-whole.ensures in
    let fn = c.ranges.num in let fd = c.ranges.den in
    let fz : SFits w128 c.with_sign.result = search rules in
    let signed = sign (goal.at.returns-clause-value c).After-with_sign in
    ap₂ (λ (z : ℤ) (k : ℕ). ratio z (pos k)) (to_z-of_z fz) d ∙ same_value _ _ _ _ _ _ m (signed ∙ ap (with_sign c.args.num c.args.den) n)
