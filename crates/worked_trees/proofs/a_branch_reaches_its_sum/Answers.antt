use Rattle.worked_trees.proofs.a_branch_reaches_its_sum.Goals as goal
use Rattle.worked_trees.proofs.PacedFork

pub returns : goal.returns
returns c = PacedFork.a_branch_reaches_its_sum
