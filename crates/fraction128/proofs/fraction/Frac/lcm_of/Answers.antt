use Rattle.std.proofs.Common.{arith, ◌≡◌, ◌∙◌, sym, refl, subst, SFits, to_z-of_z, unsigned_abs}
use Rattle.std.proofs.lemmas.Int.{ints}
use mir.Syntax.{w128}
use Rattle.rational.specs.Ratio.{IsSmall}
use Rattle.fraction128.specs.Multiple.{IsLeastMultiple}
use Rattle.fraction128.proofs.Values.{num_fits, num_above}
use Rattle.fraction128.proofs.CommonMultiple.{common_multiple_is, common_multiple_least}
use Rattle.fraction128.proofs.fraction.Frac.lcm_of.Goals as goal

pub multiple_of-requires-clause-left_some : goal.multiple_of-requires-clause-left_some
multiple_of-requires-clause-left_some c =
    let fa : SFits w128 c.a.inside.num = num_fits c.a.invariant in
    let size : c.unsigned_abs.result ≡ unsigned_abs c.a.inside.num = simp to_z-of_z at c.unsigned_abs.ensures.value in
    let some = num_above _ _ c.args.a c.a.invariant c.a.view_is c.requires.left in
    omega (arith, ints, size, some)

pub multiple_of-requires-clause-right_some : goal.multiple_of-requires-clause-right_some
multiple_of-requires-clause-right_some c =
    let fb : SFits w128 c.b.inside.num = num_fits c.b.invariant in
    let size : c.unsigned_abs-2.result ≡ unsigned_abs c.b.inside.num = simp to_z-of_z at c.unsigned_abs-2.ensures.value in
    let some = num_above _ _ c.args.b c.b.invariant c.b.view_is c.requires.right in
    omega (arith, ints, size, some)

pub returns-in-Some-clause-value : goal.returns-in-Some-clause-value
returns-in-Some-clause-value c =
    let fa : SFits w128 c.a.inside.num = num_fits c.a.invariant in
    let fb : SFits w128 c.b.inside.num = num_fits c.b.invariant in
    let is = common_multiple_is _ _ _ _ c.args.a c.args.b _ _ c.a.invariant c.b.invariant c.a.view_is c.b.view_is (simp to_z-of_z at c.unsigned_abs.ensures.value) (simp to_z-of_z at c.unsigned_abs-2.ensures.value) in
    let exact = c.in-Some.ensures in
    exact.0 ∙ is

pub returns-in-Some-clause-least : goal.returns-in-Some-clause-least
returns-in-Some-clause-least c =
    let fa : SFits w128 c.a.inside.num = num_fits c.a.invariant in
    let fb : SFits w128 c.b.inside.num = num_fits c.b.invariant in
    let is = common_multiple_is _ _ _ _ c.args.a c.args.b _ _ c.a.invariant c.b.invariant c.a.view_is c.b.view_is (simp to_z-of_z at c.unsigned_abs.ensures.value) (simp to_z-of_z at c.unsigned_abs-2.ensures.value) in
    let exact = c.in-Some.ensures in
    subst (IsLeastMultiple c.args.a c.args.b) (sym (exact.0 ∙ is)) (common_multiple_least c.args.a c.args.b c.requires.left c.requires.right)

pub returns-in-Some-clause-fits : goal.returns-in-Some-clause-fits
returns-in-Some-clause-fits c =
    let fa : SFits w128 c.a.inside.num = num_fits c.a.invariant in
    let fb : SFits w128 c.b.inside.num = num_fits c.b.invariant in
    let is = common_multiple_is _ _ _ _ c.args.a c.args.b _ _ c.a.invariant c.b.invariant c.a.view_is c.b.view_is (simp to_z-of_z at c.unsigned_abs.ensures.value) (simp to_z-of_z at c.unsigned_abs-2.ensures.value) in
    let exact = c.in-Some.ensures in
    (λ _. subst IsSmall is exact.1, λ _. refl)

pub returns-in-None-clause-fits : goal.returns-in-None-clause-fits
returns-in-None-clause-fits c =
    let fa : SFits w128 c.a.inside.num = num_fits c.a.invariant in
    let fb : SFits w128 c.b.inside.num = num_fits c.b.invariant in
    let is = common_multiple_is _ _ _ _ c.args.a c.args.b _ _ c.a.invariant c.b.invariant c.a.view_is c.b.view_is (simp to_z-of_z at c.unsigned_abs.ensures.value) (simp to_z-of_z at c.unsigned_abs-2.ensures.value) in
    (λ e. cc, λ h. absurd (c.in-None.ensures (subst IsSmall (sym is) h)))
