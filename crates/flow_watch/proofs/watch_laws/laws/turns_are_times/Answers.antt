use Rattle.flow_watch.proofs.watch_laws.laws.turns_are_times.Goals as goal
use Rattle.flow_watch.proofs.watch_laws.Times

pub returns : goal.returns
returns c = Times.turns_are_times
