use Rattle.min_plus.proofs.Unambiguous.{deviations_are_unique}
use Rattle.min_plus.proofs.deviations_are_unique.Goals as goal

pub returns : goal.returns
returns c = deviations_are_unique
