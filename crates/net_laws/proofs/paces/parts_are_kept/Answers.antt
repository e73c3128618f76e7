use Rattle.net_laws.proofs.paces.parts_are_kept.Goals as goal
use Rattle.net_laws.proofs.paces.Groups

pub returns : goal.returns
returns c = Groups.parts_are_kept
