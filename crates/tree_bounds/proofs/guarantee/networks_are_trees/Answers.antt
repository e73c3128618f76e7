use Rattle.tree_bounds.proofs.guarantee.TreesOf.{are_trees}
use Rattle.tree_bounds.proofs.guarantee.networks_are_trees.Goals as goal

pub returns : goal.returns
returns c = are_trees
