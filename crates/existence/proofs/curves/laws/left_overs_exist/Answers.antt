use Rattle.existence.proofs.curves.LeftOvers.{left_over_answered}
use Rattle.existence.proofs.curves.laws.left_overs_exist.Goals as goal

pub returns : goal.returns
returns c = left_over_answered
