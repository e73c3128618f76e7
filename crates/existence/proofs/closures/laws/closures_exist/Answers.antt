use Rattle.existence.proofs.closures.Folds.{closures_exist}
use Rattle.existence.proofs.closures.laws.closures_exist.Goals as goal

pub returns : goal.returns
returns c = closures_exist
