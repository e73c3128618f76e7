use Rattle.curve_deconv.proofs.Kept.{deconvolution_keeps}
use Rattle.curve_deconv.proofs.laws.deconvolution_keeps.Goals as goal

pub returns : goal.returns
returns c = deconvolution_keeps
