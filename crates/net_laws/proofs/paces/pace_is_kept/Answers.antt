use Rattle.net_laws.proofs.paces.pace_is_kept.Goals as goal
use Rattle.net_laws.proofs.paces.Paces

pub returns : goal.returns
returns c = Paces.pace_is_kept
