use Rattle.net_laws.proofs.sums_are_kept.Goals as goal
use Rattle.net_laws.proofs.Sums

pub returns : goal.returns
returns c = Sums.sums_are_kept
