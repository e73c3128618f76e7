use Rattle.std.proofs.Common.{◌∙◌}
use Rattle.curve_conv.proofs.ConvolveAnswers.{windows}
use Rattle.subadd_closure.proofs.again.few_window.Goals as goal

pub few_between-requires-clause-curves : goal.few_between-requires-clause-curves
few_between-requires-clause-curves c = (c.requires.frame.call.first, c.requires.frame.call.second)

pub few_between-requires-clause-windows : goal.few_between-requires-clause-windows
few_between-requires-clause-windows c =
    windows c.args.f.now c.args.g.now c.args.frame.now c.deref.result.now c.deref-2.result.now c.requires.frame
    (c.deref.ensures.value ∙ c.in_ok-left.ensures) (c.deref-2.ensures.value ∙ c.in_ok-right.ensures)

pub few_between-requires-clause-first : goal.few_between-requires-clause-first
few_between-requires-clause-first c = c.deref.ensures.value ∙ c.in_ok-left.ensures

pub few_between-requires-clause-second : goal.few_between-requires-clause-second
few_between-requires-clause-second c = c.deref-2.ensures.value ∙ c.in_ok-right.ensures
