use Rattle.existence.proofs.curves.Convolutions.{convolution_answered}
use Rattle.existence.proofs.curves.laws.convolutions_exist.Goals as goal

pub returns : goal.returns
returns c = convolution_answered
