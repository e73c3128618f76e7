use Rattle.std.proofs.Common.{refl, subst}
use Rattle.std.specs.Prelude.{◌⊎◌}
use Rattle.std.proofs.lemmas.List.{take_all}
use Rattle.std.proofs.lemmas.List.Elements.{All-more}
use Rattle.upp_curve.specs.declared.affine_segment.element.Element.{Element}
use Rattle.upp_curve.specs.affine_segment.Reading.{read}
use Rattle.subadd_closure.specs.Useful.{IsIdle, IsOrigin, MakesOver}
use Rattle.subadd_closure.proofs.useful.is_idle.Goals as goal

pub loop-y-preserved : goal.loop-y-preserved
loop-y-preserved c =
    let P : Element → Type 0 = λ y. IsOrigin y ⊎ MakesOver (read c.args.pieces.now) c.args.end c.args.x.now y in
    let y = c.y-item.result in
    All-more P c.args.ys.now c.loop-y.y-index y c.loop-y-test.true c.loop-y.invariant
    (subst P c.y-item.is (c.if-not-is_idle_with.ensures refl))

pub returns : goal.returns
returns c =
    λ h. subst (λ zs. IsIdle (read c.args.pieces.now) c.args.end zs c.args.x.now)
    (take_all c.loop-y.y-index c.args.ys.now c.loop-y-test.false) c.loop-y.invariant
