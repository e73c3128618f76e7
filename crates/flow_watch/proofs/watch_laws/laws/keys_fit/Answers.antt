use Rattle.flow_watch.proofs.watch_laws.laws.keys_fit.Goals as goal
use Rattle.flow_watch.proofs.watch_laws.MarkSizes

pub returns : goal.returns
returns c = MarkSizes.keys_fit
