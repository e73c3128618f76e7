use Rattle.tree_runs.proofs.tree_queues_keep_sizes.Goals as goal
use Rattle.tree_runs.proofs.Packets

pub returns : goal.returns
returns c = Packets.tree_queues_keep_sizes
