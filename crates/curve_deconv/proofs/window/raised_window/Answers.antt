use Rattle.std.proofs.Common.{◌∙◌, sym, subst}
use Rattle.curve_deconv.proofs.Raised.{mark_fits, sum_ready, ok_raised}
use Rattle.curve_deconv.specs.DeconvolutionWindows.{IsPairsWindow}
use Rattle.curve_deconv.proofs.window.raised_window.Goals.{After-deref}
use Rattle.curve_deconv.proofs.window.raised_window.Goals as goal

pub mark_pieces-requires : goal.mark_pieces-requires
mark_pieces-requires c = mark_fits c.args.end c.args.reach c.args.f.now c.args.g.now c.last_infinite-last.result c.requires c.last_infinite-last.ensures

pairs : (c : After-deref) → IsPairsWindow c.args.end c.args.reach c.args.f.now c.args.g.now c.deref.result.now
pairs c = subst (IsPairsWindow c.args.end c.args.reach c.args.f.now c.args.g.now) (sym c.deref.ensures.value) c.in_ok-pairs.ensures

pub window_sum-requires : goal.window_sum-requires
window_sum-requires c =
    let S = sum_ready c.args.end c.args.reach c.args.f.now c.args.g.now c.deref.result.now c.deref-2.result.now c.last_infinite-last.result c.requires
    (pairs (goal.at.window_sum-requires c).After-deref) c.last_infinite-last.ensures (c.deref-2.ensures.value ∙ c.in_ok-marks.ensures) in
    record { left = S.left; right = S.right; cuts = S.cuts; sums = S.sums }

pub returns : goal.returns
returns c =
    ok_raised c.window_sum.result c.args.end c.args.reach c.args.f.now c.args.g.now c.deref.result.now c.deref-2.result.now c.last_infinite-last.result c.requires
    (pairs (goal.at.returns c).After-deref) c.last_infinite-last.ensures (c.deref-2.ensures.value ∙ c.in_ok-marks.ensures) c.window_sum.ensures
