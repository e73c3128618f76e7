use Rattle.net_bounds.proofs.table_bounds_every_run.Goals as goal
use Rattle.net_bounds.proofs.Kept

pub returns : goal.returns
returns c = Kept.table_bounds_every_run
