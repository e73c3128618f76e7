use Rattle.existence.proofs.curves.Verticals.{vertical_answered}
use Rattle.existence.proofs.curves.laws.verticals_exist.Goals as goal

pub returns : goal.returns
returns c = vertical_answered
