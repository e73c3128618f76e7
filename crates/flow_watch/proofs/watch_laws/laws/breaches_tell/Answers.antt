use Rattle.flow_watch.proofs.watch_laws.laws.breaches_tell.Goals as goal
use Rattle.flow_watch.proofs.watch_laws.Premises

pub returns : goal.returns
returns c = Premises.breaches_tell
