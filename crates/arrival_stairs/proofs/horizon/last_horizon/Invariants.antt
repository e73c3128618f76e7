use Rattle.std.proofs.Common.{List}
use Rattle.arrival_stairs.specs.Horizon.{ArePast, IsOnset}
use Rattle.arrival_stairs.specs.declared.stairs.Bundle.{Bundle}
use Rattle.arrival_stairs.proofs.horizon.last_horizon.Given as goal

abbrev pub invariant-loop-service : goal.invariant-loop-service
invariant-loop-service l = (bundles : List Bundle) → IsOnset bundles l.onset → ArePast bundles l.steps l.services l.service-index l.last
