use Rattle.flow_watch.proofs.watch_laws.laws.breaks_are_starts.Goals as goal
use Rattle.flow_watch.proofs.watch_laws.UnrolledStarts.{start_before}

pub returns : goal.returns
returns c = λ d end x normal is l. let (far, has) = is in start_before d end far x normal has l
