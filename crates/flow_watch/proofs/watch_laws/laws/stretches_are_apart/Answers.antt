use Rattle.flow_watch.proofs.watch_laws.laws.stretches_are_apart.Goals as goal
use Rattle.flow_watch.proofs.watch_laws.Premises

pub returns : goal.returns
returns c = Premises.stretches_are_apart
