use Rattle.flow_watch.proofs.step_lines.PlacedPairs.{AreLaid}
use Rattle.flow_watch.proofs.step_lines.places.within_upto.Given as goal

abbrev pub invariant-loop-number : goal.invariant-loop-number
invariant-loop-number l = AreLaid l.slack l.wide l.parts l.nodes l.places l.number l.least
