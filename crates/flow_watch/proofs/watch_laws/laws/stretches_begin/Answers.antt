use Rattle.flow_watch.proofs.watch_laws.laws.stretches_begin.Goals as goal
use Rattle.flow_watch.proofs.watch_laws.Times

pub returns : goal.returns
returns c = Times.stretches_begin
