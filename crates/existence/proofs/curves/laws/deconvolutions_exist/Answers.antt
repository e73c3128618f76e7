use Rattle.existence.proofs.curves.Deconvolutions.{deconvolution_answered}
use Rattle.existence.proofs.curves.laws.deconvolutions_exist.Goals as goal

pub returns : goal.returns
returns c = deconvolution_answered
