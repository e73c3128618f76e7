use Rattle.flow_watch.proofs.step_lines.PlacedPairs.{IsPlacing}
use Rattle.flow_watch.proofs.step_lines.places.places_of.Given as goal

abbrev pub invariant-loop-entering : goal.invariant-loop-entering
invariant-loop-entering l = IsPlacing l.height l.spare l.rate l.entries l.entering-index l.bits l.places.items
