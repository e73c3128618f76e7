use Rattle.existence.proofs.curves.Runs.{supremum_answered}
use Rattle.existence.proofs.curves.laws.suprema_exist.Goals as goal

pub returns : goal.returns
returns c = supremum_answered
