use Rattle.existence.proofs.curves.Infima.{infimum_answered}
use Rattle.existence.proofs.curves.laws.infima_exist.Goals as goal

pub returns : goal.returns
returns c = infimum_answered
