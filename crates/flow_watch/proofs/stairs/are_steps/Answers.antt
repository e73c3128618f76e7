use Rattle.std.proofs.Common.{◌<◌, ◌∙◌, Option, length, ap, below_more, refl, subst, arith}
use Rattle.std.specs.Prelude.{unwrap_or}
use Rattle.rational.specs.Rational.{ℚ}
use Rattle.flow_watch.specs.Stairs.{IsStep}
use Rattle.flow_watch.proofs.StairPaces.{step_at}
use Rattle.flow_watch.proofs.stairs.are_steps.Goals as goal

pub loop-i-preserved : goal.loop-i-preserved
loop-i-preserved c =
    let s = c.args.stair.now in
    let ps = c.args.pieces.now in
    let p = c.index-pieces-i.result in
    let l : c.loop-i.i < length ps = omega arith in
    let step : IsStep s.height s.slack s.rate p c.unwrap_or.result = c.if-not-is_step.ensures refl in
    below_more _ _ c.loop-i.invariant (step_at s.height s.slack s.rate c.args.end ps c.loop-i.i p l c.index-pieces-i.is
    (subst (λ (x : ℚ). IsStep s.height s.slack s.rate p x) (c.unwrap_or.ensures ∙ ap (λ (o : Option ℚ). unwrap_or o c.args.end) c.next_start.ensures) step))
