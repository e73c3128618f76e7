use Rattle.std.proofs.Common.{arith}
use Rattle.tree_network.specs.Networks.{longest_frame}
use Rattle.tree_bounds.proofs.incoming.pace_of.Goals as goal

pub overflow_mul-result : goal.overflow_mul-result
unfolding longest_frame
overflow_mul-result c = omega (arith, c.requires.longest)
