use Rattle.flow_watch.proofs.watch_laws.laws.reach_suffices.Goals as goal
use Rattle.flow_watch.proofs.watch_laws.Reaches

pub returns : goal.returns
returns c = Reaches.reach_suffices
