use Rattle.std.proofs.Common.{arith, refl, pos, ext_get_or}
use Rattle.rational.specs.Rational.{int}
use Rattle.upp_curve.specs.Kinds.{piece}
use Rattle.upp_curve.proofs.same.same_pieces.Goals as goal

pub returns : goal.returns
returns c =
    let none = piece (int (pos 0)) (int (pos 0)) (int (pos 0)) (int (pos 0)) in
    let d = c.loop-i-test.false in (
      λ _. ext_get_or none c.args.a.now c.args.b.now c.if-a-b.false (λ k h. c.loop-i.invariant k none (omega (arith, d))),
      λ _. refl,
    )
