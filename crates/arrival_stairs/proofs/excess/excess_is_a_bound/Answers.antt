use Rattle.arrival_stairs.proofs.Tails.{excess_is_a_bound}
use Rattle.arrival_stairs.proofs.excess.excess_is_a_bound.Goals as goal

pub returns : goal.returns
returns c = excess_is_a_bound
