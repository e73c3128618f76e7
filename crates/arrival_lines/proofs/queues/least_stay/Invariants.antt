use Rattle.std.proofs.Common.{List}
use Rattle.arrival_lines.specs.Steps.{AreSteps}
use Rattle.arrival_lines.specs.declared.grid.Part.{Part}
use Rattle.arrival_lines.proofs.Leasts.{Known}
use Rattle.arrival_lines.proofs.queues.least_stay.Given as goal

abbrev pub invariant-loop-service : goal.invariant-loop-service
invariant-loop-service l = (parts : List Part) → AreSteps parts l.steps → Known parts l.services l.longest l.service-index l.least
