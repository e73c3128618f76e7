use Rattle.std.proofs.Common.{arith, ◌*◌, ◌/◌, ◌+◌, ◌^◌, ◌≡◌, ap, ◌∙◌}
use Rattle.curve_library.proofs.Doubling.{joined_is, far_quotient}
use Rattle.curve_library.proofs.shares.product_quotient.Goals as goal

pub returns-in_default : goal.returns-in_default
returns-in_default c =
    let p = c.product_over-low.result in
    let h = c.in_default.ensures in
    far_quotient c.args.n c.args.m c.args.by p.0 p.1 (2 ^ 127) c.requires.some c.product_over-low.ensures.is (omega (arith, h))

pub returns-in-Some-checked_add : goal.returns-in-Some-checked_add
returns-in-Some-checked_add c =
    let p = c.product_over-low.result in
    let count : c.in-Some-checked_add.count ≡ c.args.n * (c.args.m / c.args.by) + p.0 = let h = c.in-Some.ensures in let k = c.in-Some-checked_add.ensures in omega (arith, h, k) in
    record {
      is = ap (λ x. x * c.args.by + p.1) count ∙ joined_is c.args.n c.args.m c.args.by p.0 p.1 c.product_over-low.ensures.is;
      below = c.product_over-low.ensures.below;
      size = omega arith;
    }

pub returns-in_default-checked_add : goal.returns-in_default-checked_add
returns-in_default-checked_add c =
    let p = c.product_over-low.result in
    let h = c.in-Some.ensures in
    let k = c.in-Some-checked_add.ensures in
    far_quotient c.args.n c.args.m c.args.by p.0 p.1 (2 ^ 127) c.requires.some c.product_over-low.ensures.is (omega (arith, h, k))

pub returns-in_default-checked_add-2 : goal.returns-in_default-checked_add-2
returns-in_default-checked_add-2 c =
    let p = c.product_over-low.result in
    let h = c.in-Some.ensures in
    let k = c.in_default-checked_add.ensures in
    far_quotient c.args.n c.args.m c.args.by p.0 p.1 (2 ^ 127) c.requires.some c.product_over-low.ensures.is (omega (arith, h, k))
