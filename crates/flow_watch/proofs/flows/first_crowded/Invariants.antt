use Rattle.upp_curve.specs.Curve.{value_at}
use Rattle.flow_watch.specs.Flows.{NoneCrowded}
use Rattle.flow_watch.proofs.flows.first_crowded.Given as goal

abbrev pub invariant-loop-last : goal.invariant-loop-last
invariant-loop-last l = NoneCrowded (value_at l.arrival) l.entries l.last
