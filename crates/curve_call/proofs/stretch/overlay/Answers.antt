use Rattle.curve_call.proofs.OverlayLoop.{started, overlay_step, step_fewer, next_fits, overlay_end}
use Rattle.curve_call.proofs.stretch.overlay.Goals as goal

pub loop-walk-init : goal.loop-walk-init
loop-walk-init c =
    rw (c.in_ok-push.ensures.items, c.in_ok-stretches.ensures.items)
    (started c.args.f.now c.args.g.now c.at_start-walk.result c.requires.left c.requires.right c.at_start-walk.ensures)

pub step-requires-clause-fits : goal.step-requires-clause-fits
step-requires-clause-fits c = next_fits c.args.f.now c.args.g.now _ c.loop-walk.walk c.requires.fits c.loop-walk.invariant

pub loop-walk-smaller : goal.loop-walk-smaller
loop-walk-smaller c = step_fewer c.args.f.now c.args.g.now _ c.loop-walk.walk c.step.new.w c.loop-walk.invariant c.step.ensures

pub loop-walk-preserved : goal.loop-walk-preserved
loop-walk-preserved c =
    rw c.in_ok-push-2.ensures.items (overlay_step c.args.f.now c.args.g.now _ c.loop-walk.walk c.step.new.w c.loop-walk.invariant c.step.ensures)

pub returns : goal.returns
returns c = overlay_end c.args.f.now c.args.g.now _ c.loop-walk.walk c.loop-walk.invariant c.if-walk-f.false c.if-walk-g.false
