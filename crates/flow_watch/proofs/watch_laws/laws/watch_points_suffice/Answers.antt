use Rattle.flow_watch.proofs.watch_laws.laws.watch_points_suffice.Goals as goal
use Rattle.flow_watch.proofs.watch_laws.Premises

pub returns : goal.returns
returns c = Premises.watch_points_suffice
