use Rattle.std.proofs.Common.{rules, ◌≡◌, ◌∙◌, ap₂, SFits, to_z-of_z, ℤ, ℕ, pos, unsigned_abs}
use mir.Syntax.{w128}
use Rattle.rational.specs.Ratio.{ratio, with_sign}
use Rattle.fraction128.proofs.Values.{num_fits, num_some}
use Rattle.fraction128.proofs.Turned.{turned_lowest, turned_value}
use Rattle.fraction128.proofs.fraction.Frac.recip.Goals.{After-unsigned_abs}
use Rattle.fraction128.proofs.fraction.Frac.recip.Goals as goal

turned : (c : After-unsigned_abs)
    → (c.with_sign.result ≡ with_sign c.self.inside.num (pos 1) c.self.inside.den) × (c.unsigned_abs.result ≡ unsigned_abs c.self.inside.num)
turned c =
    let fn : SFits w128 c.self.inside.num = num_fits c.self.invariant in
    (simp to_z-of_z at c.with_sign.ensures, simp to_z-of_z at c.unsigned_abs.ensures.value)

pub invariant_of-result : goal.invariant_of-result
invariant_of-result c =
    let n = c.self.inside.num in let d = c.self.inside.den in
    let fn : SFits w128 n = num_fits c.self.invariant in
    let fs : SFits w128 c.with_sign.result = search rules in
    let both = turned (goal.at.invariant_of-result c).After-unsigned_abs in
    simp to_z-of_z (rw (both.0, both.1) (turned_lowest n d c.self.invariant (num_some n d c.args.self c.self.invariant c.self.view_is c.requires)))

pub returns : goal.returns
returns c =
    let n = c.self.inside.num in let d = c.self.inside.den in
    let fs : SFits w128 c.with_sign.result = search rules in
    let both = turned (goal.at.returns c).After-unsigned_abs in
    ap₂ (λ (z : ℤ) (k : ℕ). ratio z (pos k)) (to_z-of_z fs ∙ both.0) both.1
    ∙ turned_value n d c.args.self c.self.invariant c.self.view_is (num_some n d c.args.self c.self.invariant c.self.view_is c.requires)
