use Rattle.net_laws.proofs.paces.group_is_cut.Goals as goal
use Rattle.net_laws.proofs.paces.Groups

pub returns-clause-bucket : goal.returns-clause-bucket
returns-clause-bucket c = Groups.group_is_cut

pub returns-clause-lesser : goal.returns-clause-lesser
returns-clause-lesser c = Groups.group_keeps_lesser
