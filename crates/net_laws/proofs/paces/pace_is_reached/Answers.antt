use Rattle.net_laws.proofs.paces.pace_is_reached.Goals as goal
use Rattle.net_laws.proofs.paces.Reached

pub returns : goal.returns
returns c = Reached.pace_is_reached
