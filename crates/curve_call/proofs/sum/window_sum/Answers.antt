use Rattle.std.specs.Prelude.{[], ◌∷◌, ◌++◌}
use Rattle.std.proofs.Common.{◌∙◌, ap}
use Rattle.curve_call.proofs.OverlayLoop.{started}
use Rattle.curve_call.proofs.SumLoop.{here_fits, next_stretch_fits, sum_start, sum_step, cuts_go_on, fewer_left, sum_end}
use Rattle.curve_call.proofs.sum.window_sum.Goals as goal

pub sum_stretch-requires : goal.sum_stretch-requires
sum_stretch-requires c =
    let w = c.at_start-walk.result in
    here_fits c.args.f.now c.args.g.now (w.here ∷ []) w c.requires.sums (started c.args.f.now c.args.g.now w c.requires.left c.requires.right c.at_start-walk.ensures)

pub loop-walk-init : goal.loop-walk-init
loop-walk-init c =
    let w = c.at_start-walk.result in
    sum_start c.args.f.now c.args.g.now c.push.new.self.items w (started c.args.f.now c.args.g.now w c.requires.left c.requires.right c.at_start-walk.ensures)
    (c.in_ok-push.ensures.items ∙ ap (λ z. z ++ c.sum_stretch.result ∷ []) c.in_ok-pieces.ensures.items ∙ ap (λ z. z ∷ []) c.sum_stretch.ensures)

pub step-requires-clause-fits : goal.step-requires-clause-fits
step-requires-clause-fits c = cuts_go_on c.args.f.now c.args.g.now c.loop-walk.pieces.items c.loop-walk.walk c.requires.cuts c.loop-walk.invariant

pub sum_stretch-requires-in-loop-walk : goal.sum_stretch-requires-in-loop-walk
sum_stretch-requires-in-loop-walk c =
    next_stretch_fits c.args.f.now c.args.g.now c.loop-walk.pieces.items c.loop-walk.walk c.step.new.w c.requires.sums c.loop-walk.invariant c.step.ensures

pub loop-walk-smaller : goal.loop-walk-smaller
loop-walk-smaller c = fewer_left c.args.f.now c.args.g.now c.loop-walk.pieces.items c.loop-walk.walk c.step.new.w c.loop-walk.invariant c.step.ensures

pub loop-walk-preserved : goal.loop-walk-preserved
loop-walk-preserved c =
    sum_step c.args.f.now c.args.g.now c.loop-walk.pieces.items c.push-in-loop-walk.new.self.items c.loop-walk.walk c.step.new.w c.sum_stretch-in-loop-walk.result
    c.loop-walk.invariant c.step.ensures c.sum_stretch-in-loop-walk.ensures c.in_ok-push-2.ensures.items

pub returns : goal.returns
returns c = sum_end c.args.f.now c.args.g.now c.loop-walk.pieces.items c.loop-walk.walk c.loop-walk.invariant c.if-walk-f.false c.if-walk-g.false
