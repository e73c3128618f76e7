use Rattle.net_bounds.proofs.server_keeps.Goals as goal
use Rattle.net_bounds.proofs.Kept

pub returns : goal.returns
returns c = Kept.server_keeps
