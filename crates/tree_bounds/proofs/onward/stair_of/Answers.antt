use Rattle.std.proofs.Common.{arith}
use Rattle.tree_network.specs.Networks.{longest_frame}
use Rattle.tree_bounds.proofs.onward.stair_of.Goals as goal

pub overflow_mul-link : goal.overflow_mul-link
unfolding longest_frame
overflow_mul-link c = omega (arith, c.requires)
