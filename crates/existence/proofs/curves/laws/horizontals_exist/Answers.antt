use Rattle.existence.proofs.curves.Horizontals.{horizontal_answered}
use Rattle.existence.proofs.curves.laws.horizontals_exist.Goals as goal

pub returns : goal.returns
returns c = horizontal_answered
