use Rattle.curve_deconv.proofs.Kept.{deconvolution_is_finite}
use Rattle.curve_deconv.proofs.laws.deconvolution_is_finite.Goals as goal

pub returns : goal.returns
returns c = deconvolution_is_finite
