use Rattle.tree_runs.proofs.stairs_grow.Goals as goal
use Rattle.tree_runs.proofs.Stairs

pub returns : goal.returns
returns c = Stairs.stairs_grow
