use Rattle.std.proofs.Common.{◌∙◌, sym, subst}
use Rattle.rational.proofs.Laws.{le_of_lt}
use Rattle.curve_deconv.specs.DeconvolutionWindows.{IsRaisedWindow}
use Rattle.curve_deconv.proofs.Moved.{raised_starts, zero_fits, each_left_fits, ok_deconvolved}
use Rattle.curve_deconv.proofs.window.window_deconvolution.Goals.{After-deref}
use Rattle.curve_deconv.proofs.window.window_deconvolution.Goals as goal

raised : (c : After-deref) → IsRaisedWindow c.args.end c.args.reach c.args.f.now c.args.g.now c.deref.result.now
raised c = subst (IsRaisedWindow c.args.end c.args.reach c.args.f.now c.args.g.now) (sym c.deref.ensures.value) c.in_ok-raised.ensures

pub left_window-requires-clause-starts : goal.left_window-requires-clause-starts
left_window-requires-clause-starts c =
    raised_starts c.args.end c.args.reach c.args.f.now c.args.g.now c.deref.result.now c.requires
    (raised (goal.at.left_window-requires-clause-starts c).After-deref)

pub left_window-requires-clause-time : goal.left_window-requires-clause-time
left_window-requires-clause-time c = le_of_lt c.requires.some

pub left_window-requires-clause-zero : goal.left_window-requires-clause-zero
left_window-requires-clause-zero c = zero_fits c.args.end c.args.reach c.args.f.now c.args.g.now c.requires

pub left_window-requires-clause-fits : goal.left_window-requires-clause-fits
left_window-requires-clause-fits c =
    each_left_fits c.args.end c.args.reach c.args.f.now c.args.g.now c.deref.result.now c.requires
    (raised (goal.at.left_window-requires-clause-fits c).After-deref)

pub returns : goal.returns
returns c =
    ok_deconvolved c.negated_pieces.result c.args.end c.args.reach c.args.f.now c.args.g.now c.deref.result.now c.deref-2.result.now c.requires
    (raised (goal.at.returns c).After-deref)
    (λ p ps e. c.deref-2.ensures.value ∙ c.in_ok-moved.ensures p ps e) c.negated_pieces.ensures
