use Rattle.arrival_stairs.proofs.OneExcess.{excess_is_one}
use Rattle.arrival_stairs.proofs.excess.excess_is_one.Goals as goal

pub returns : goal.returns
returns c = excess_is_one
