use Rattle.flow_watch.proofs.watch_laws.laws.pairs_suffice.Goals as goal
use Rattle.flow_watch.proofs.watch_laws.Premises

pub returns : goal.returns
returns c = Premises.pairs_suffice
