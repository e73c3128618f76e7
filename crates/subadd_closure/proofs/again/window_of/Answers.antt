use Rattle.std.proofs.Common.{◌∙◌}
use Rattle.curve_conv.proofs.ConvolveAnswers.{windows}
use Rattle.subadd_closure.proofs.again.window_of.Goals as goal

pub window_between-requires-clause-curves : goal.window_between-requires-clause-curves
window_between-requires-clause-curves c = (c.requires.frame.call.first, c.requires.frame.call.second)

pub window_between-requires-clause-windows : goal.window_between-requires-clause-windows
window_between-requires-clause-windows c =
    windows c.args.f.now c.args.g.now c.args.frame.now c.deref.result.now c.deref-2.result.now c.requires.frame
    (c.deref.ensures.value ∙ c.in_ok-left.ensures) (c.deref-2.ensures.value ∙ c.in_ok-right.ensures)

pub window_between-requires-clause-first : goal.window_between-requires-clause-first
window_between-requires-clause-first c = c.deref.ensures.value ∙ c.in_ok-left.ensures

pub window_between-requires-clause-second : goal.window_between-requires-clause-second
window_between-requires-clause-second c = c.deref-2.ensures.value ∙ c.in_ok-right.ensures
