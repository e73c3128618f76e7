use Rattle.std.proofs.Common.{◌∙◌}
use Rattle.curve_conv.proofs.ConvolveAnswers.{windows, convolved_window}
use Rattle.curve_conv.proofs.operator.convolved_pieces.Goals as goal

pub window_convolution-requires : goal.window_convolution-requires
window_convolution-requires c =
    windows c.args.f.now c.args.g.now c.args.frame.now c.deref.result.now c.deref-2.result.now c.requires (c.deref.ensures.value ∙ c.in_ok-left.ensures) (c.deref-2.ensures.value ∙ c.in_ok-right.ensures)

pub returns : goal.returns
returns c =
    convolved_window c.window_convolution.result c.args.f.now c.args.g.now c.args.frame.now.end c.deref.result.now c.deref-2.result.now (c.deref.ensures.value ∙ c.in_ok-left.ensures) (c.deref-2.ensures.value ∙ c.in_ok-right.ensures) c.window_convolution.ensures
