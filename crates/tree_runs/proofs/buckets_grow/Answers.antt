use Rattle.tree_runs.proofs.buckets_grow.Goals as goal
use Rattle.tree_runs.proofs.Buckets

pub returns : goal.returns
returns c = Buckets.buckets_grow
