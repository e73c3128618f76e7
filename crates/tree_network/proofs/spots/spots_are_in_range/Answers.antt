use Rattle.tree_network.proofs.InRange.{in_range}
use Rattle.tree_network.proofs.spots.spots_are_in_range.Goals as goal

pub returns : goal.returns
returns c = in_range
