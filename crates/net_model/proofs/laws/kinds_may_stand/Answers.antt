use Rattle.net_model.proofs.KindsStand as kinds
use Rattle.net_model.proofs.laws.kinds_may_stand.Goals as goal

pub returns : goal.returns
returns c = kinds.kinds_may_stand
