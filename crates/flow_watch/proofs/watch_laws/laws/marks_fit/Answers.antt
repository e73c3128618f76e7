use Rattle.flow_watch.proofs.watch_laws.laws.marks_fit.Goals as goal
use Rattle.flow_watch.proofs.watch_laws.MarkSizes

pub returns : goal.returns
returns c = MarkSizes.marks_fit
