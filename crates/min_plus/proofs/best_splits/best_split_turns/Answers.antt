use Rattle.min_plus.proofs.best_splits.BestSplits.{best_split_turns}
use Rattle.min_plus.proofs.best_splits.best_split_turns.Goals as goal

pub returns : goal.returns
returns c = best_split_turns
