use Rattle.net_draft.proofs.MayStand.{made_may_stand}
use Rattle.net_draft.proofs.laws.made_may_stand.Goals as goal

pub returns : goal.returns
returns c = made_may_stand
