use Rattle.flow_watch.proofs.watch_laws.laws.first_is_one.Goals as goal
use Rattle.flow_watch.proofs.watch_laws.Premises

pub returns : goal.returns
returns c = Premises.first_is_one
