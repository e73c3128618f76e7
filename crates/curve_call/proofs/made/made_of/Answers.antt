use Rattle.curve_call.proofs.OverlayLoop.{started}
use Rattle.curve_call.proofs.MadeLoop.{made_start, walk_fits, last_fits, steps_fit, next_fewer, made_step, made_end}
use Rattle.curve_call.proofs.made.made_of.Goals as goal

pub loop-walk-init : goal.loop-walk-init
loop-walk-init c =
    made_start c.args.made c.args.f.now c.args.g.now _ _ (started c.args.f.now c.args.g.now c.at_start-walk.result c.requires.left c.requires.right c.at_start-walk.ensures) c.in_ok-pieces.ensures.items

pub step-requires-clause-fits : goal.step-requires-clause-fits
step-requires-clause-fits c = walk_fits c.args.made c.args.f.now c.args.g.now c.loop-walk.walk _ c.requires.cuts c.loop-walk.invariant

pub push_parts-requires : goal.push_parts-requires
push_parts-requires c =
    steps_fit c.args.made c.args.f.now c.args.g.now c.args.end c.stretch_end-to.result c.loop-walk.walk _ c.requires.fits c.loop-walk.invariant c.stretch_end-to.ensures.some c.stretch_end-to.ensures.next

pub push_parts-requires-2 : goal.push_parts-requires-2
push_parts-requires-2 c = last_fits c.args.made c.args.f.now c.args.g.now c.args.end c.loop-walk.walk _ c.requires.fits c.loop-walk.invariant

pub loop-walk-smaller : goal.loop-walk-smaller
loop-walk-smaller c = next_fewer c.args.made c.args.f.now c.args.g.now c.loop-walk.walk c.step.new.w _ c.loop-walk.invariant c.step.ensures

pub loop-walk-preserved : goal.loop-walk-preserved
loop-walk-preserved c =
    made_step c.args.made c.args.f.now c.args.g.now c.stretch_end-to.result c.loop-walk.walk c.step.new.w c.loop-walk.pieces.items _ c.loop-walk.invariant c.stretch_end-to.ensures.next c.in_ok-push_parts.ensures c.step.ensures

pub returns : goal.returns
returns c =
    made_end c.args.made c.args.f.now c.args.g.now c.args.end c.loop-walk.walk c.loop-walk.pieces.items _ c.loop-walk.invariant c.if-walk-f.false c.if-walk-g.false c.in_ok-push_parts-2.ensures
