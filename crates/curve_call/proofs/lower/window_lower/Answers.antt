use Rattle.curve_call.specs.declared.made.Made.TheVariants.{Lower}
use Rattle.curve_call.proofs.OverlayLoop.{started}
use Rattle.curve_call.proofs.MadeLoop.{walk_fits, last_fits, steps_fit, next_fewer}
use Rattle.curve_call.proofs.LowerWindows.{lower_steps}
use Rattle.curve_call.proofs.LowerLoop.{lower_start, lower_step, lower_left, lower_right, lower_end}
use Rattle.curve_call.proofs.lower.window_lower.Goals as goal

pub loop-walk-init : goal.loop-walk-init
loop-walk-init c =
    lower_start c.args.f.now c.args.g.now _ _ (started c.args.f.now c.args.g.now c.at_start-walk.result c.requires.left c.requires.right c.at_start-walk.ensures) c.in_ok-kept.ensures.items

pub step-requires-clause-fits : goal.step-requires-clause-fits
step-requires-clause-fits c = walk_fits Lower c.args.f.now c.args.g.now c.loop-walk.walk _ c.requires.cuts c.loop-walk.invariant.made

pub join_parts-requires-clause-fits : goal.join_parts-requires-clause-fits
join_parts-requires-clause-fits c =
    steps_fit Lower c.args.f.now c.args.g.now c.args.end c.stretch_end-to.result c.loop-walk.walk _ (lower_steps c.args.f.now c.args.g.now c.args.end c.requires.fits) c.loop-walk.invariant.made
    c.stretch_end-to.ensures.some c.stretch_end-to.ensures.next

pub join_parts-requires-2-clause-fits : goal.join_parts-requires-2-clause-fits
join_parts-requires-2-clause-fits c =
    last_fits Lower c.args.f.now c.args.g.now c.args.end c.loop-walk.walk _ (lower_steps c.args.f.now c.args.g.now c.args.end c.requires.fits) c.loop-walk.invariant.made

pub loop-walk-smaller : goal.loop-walk-smaller
loop-walk-smaller c = next_fewer Lower c.args.f.now c.args.g.now c.loop-walk.walk c.step.new.w _ c.loop-walk.invariant.made c.step.ensures

pub loop-walk-preserved-then-i-walk : goal.loop-walk-preserved-then-i-walk
loop-walk-preserved-then-i-walk c =
    lower_left c.args.f.now c.args.g.now c.loop-walk.walk c.pass_left.new.w c.loop-walk.kept.items _ c.loop-walk.invariant
    (λ all J. c.in_ok-pass_left.ensures.passed c.args.g.now all c.alone_until-i.ensures.early J)

pub loop-walk-preserved-then-j-walk : goal.loop-walk-preserved-then-j-walk
loop-walk-preserved-then-j-walk c =
    lower_right c.args.f.now c.args.g.now c.loop-walk.walk c.pass_right.new.w c.loop-walk.kept.items _ c.loop-walk.invariant
    (λ all J. c.in_ok-pass_right.ensures.passed c.args.f.now all c.alone_until-j.ensures.early J)

pub loop-walk-preserved : goal.loop-walk-preserved
loop-walk-preserved c =
    lower_step c.args.f.now c.args.g.now c.stretch_end-to.result c.loop-walk.walk c.step.new.w c.loop-walk.kept.items _ c.loop-walk.invariant c.stretch_end-to.ensures.next
    c.in_ok-join_parts.ensures c.step.ensures

pub returns : goal.returns
returns c =
    lower_end c.args.f.now c.args.g.now c.args.end c.loop-walk.walk c.loop-walk.kept.items _ c.requires.fits c.loop-walk.invariant c.if-walk-f.false c.if-walk-g.false
    c.in_ok-join_parts-2.ensures
