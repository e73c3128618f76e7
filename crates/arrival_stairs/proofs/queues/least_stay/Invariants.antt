use Rattle.std.proofs.Common.{List}
use Rattle.arrival_lines.specs.Steps.{AreSteps}
use Rattle.arrival_stairs.specs.BelowLines.{line_parts}
use Rattle.arrival_stairs.specs.Horizon.{IsWalkOf}
use Rattle.arrival_stairs.specs.Queues.{IsLeastSoFar}
use Rattle.arrival_stairs.specs.Stairs.{AreBundles}
use Rattle.arrival_stairs.specs.declared.stairs.Bundle.{Bundle}
use Rattle.arrival_stairs.proofs.queues.least_stay.Given as goal

abbrev pub invariant-loop-service : goal.invariant-loop-service
invariant-loop-service l = (bundles : List Bundle) → AreBundles bundles → AreSteps (line_parts bundles) l.steps → IsWalkOf bundles l.steps l.services l.walk
    → IsLeastSoFar bundles l.services l.longest l.service-index l.fn.by_lines l.least
