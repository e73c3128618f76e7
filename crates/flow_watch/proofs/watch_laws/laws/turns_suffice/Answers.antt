use Rattle.flow_watch.proofs.watch_laws.laws.turns_suffice.Goals as goal
use Rattle.flow_watch.proofs.watch_laws.Premises

pub returns : goal.returns
returns c = Premises.turns_suffice
