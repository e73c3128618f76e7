use Rattle.std.proofs.Common.{sym, subst}
use Rattle.element_envelope.specs.ConvolutionWindows.{WindowsFrom}
use Rattle.element_envelope.proofs.CopyWindows.{from_zero, ok_from_zero}
use Rattle.element_envelope.proofs.convolved.window_convolution.Goals as goal

pub window_convolution_from-requires : goal.window_convolution_from-requires
window_convolution_from-requires c =
    subst (λ z. WindowsFrom z c.args.end c.args.f.now c.args.g.now) (sym c.zero.ensures) (from_zero c.args.end c.args.f.now c.args.g.now c.requires)

pub returns : goal.returns
returns c = ok_from_zero c.window_convolution_from.result _ c.args.end c.args.f.now c.args.g.now c.zero.ensures c.window_convolution_from.ensures
