use Rattle.std.proofs.Common.{subst}
use Rattle.std.specs.Prelude.{All}
use Rattle.std.proofs.lemmas.List.{take_all}
use Rattle.std.proofs.lemmas.List.Elements.{All-more}
use Rattle.rational.specs.Rational.{◌+ℚ◌, ◌≤ℚ◌}
use Rattle.upp_curve.specs.affine_segment.Elements.{start_of}
use Rattle.element_envelope.proofs.least.are_late.Goals as goal

pub loop-x-preserved : goal.loop-x-preserved
loop-x-preserved c =
    let x = c.x-item.result in
    All-more (λ x. All (λ y. c.args.end ≤ℚ start_of x +ℚ start_of y) c.args.ys.now) c.args.xs.now c.loop-x.x-index x c.loop-x-test.true c.loop-x.invariant
    (subst (λ z. All (λ y. c.args.end ≤ℚ start_of z +ℚ start_of y) c.args.ys.now) c.x-item.is (c.is_late_beside.ensures c.if-not-is_late_beside.false))

pub returns : goal.returns
returns c =
    λ h. subst (All (λ x. All (λ y. c.args.end ≤ℚ start_of x +ℚ start_of y) c.args.ys.now)) (take_all c.loop-x.x-index c.args.xs.now c.loop-x-test.false) c.loop-x.invariant
