use Rattle.min_plus.proofs.best_splits.LineSplits.{least_at_ends}
use Rattle.min_plus.proofs.best_splits.least_at_ends.Goals as goal

pub returns : goal.returns
returns c = least_at_ends
