use Rattle.std.proofs.Common.{◌≡◌, ◌∙◌, sym, subst, SFits, to_z-of_z, Ordering}
use mir.Syntax.{w128}
use Rattle.std.specs.Ordering.{MatchOrdering}
use Rattle.rational.specs.Rational.{◌<ℚ◌}
use Rattle.rational.specs.Ratio.{cmp_q}
use Rattle.rational.proofs.Comparison.{cmp_ranks}
use Rattle.fraction128.proofs.Values.{num_fits}
use Rattle.fraction128.proofs.Compared.{cmp_fields}
use Rattle.fraction128.proofs.fraction.FracOrd.cmp.Goals as goal

pub returns-clause-is : goal.returns-clause-is
returns-clause-is c =
    let fa : SFits w128 c.self.inside.num = num_fits c.self.invariant in
    let fb : SFits w128 c.other.inside.num = num_fits c.other.invariant in
    (simp to_z-of_z at c.compare_signed.ensures) ∙ cmp_fields _ _ _ _ _ _ c.self.invariant c.other.invariant c.self.view_is c.other.view_is

pub returns-clause-ranks : goal.returns-clause-ranks
returns-clause-ranks c =
    let fa : SFits w128 c.self.inside.num = num_fits c.self.invariant in
    let fb : SFits w128 c.other.inside.num = num_fits c.other.invariant in
    let x = c.args.self.now in
    let y = c.args.other.now in
    let is : c.compare_signed.result ≡ cmp_q x y =
    (simp to_z-of_z at c.compare_signed.ensures) ∙ cmp_fields _ _ _ _ _ _ c.self.invariant c.other.invariant c.self.view_is c.other.view_is in
    subst (λ (r : Ordering). MatchOrdering r (x <ℚ y) (x ≡ y) (y <ℚ x)) (sym is) (cmp_ranks x y)
