use Rattle.tree_runs.proofs.trees_are_bounded_by_parts.Goals as goal
use Rattle.tree_runs.proofs.Bounded

pub returns : goal.returns
returns c = Bounded.trees_are_bounded_by_parts
