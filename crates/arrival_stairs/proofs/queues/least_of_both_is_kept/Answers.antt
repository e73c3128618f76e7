use Rattle.arrival_stairs.proofs.Lined.{least_of_both_is_kept}
use Rattle.arrival_stairs.proofs.queues.least_of_both_is_kept.Goals as goal

pub returns : goal.returns
returns c = least_of_both_is_kept
