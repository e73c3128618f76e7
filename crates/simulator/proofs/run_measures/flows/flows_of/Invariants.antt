use Rattle.std.proofs.Common.{◌≡◌, ◌++◌, drop}
use Rattle.simulator.specs.run_measures.Numbered.{flows_in}
use Rattle.simulator.proofs.run_measures.flows.flows_of.Given as goal

abbrev pub invariant-loop-step : goal.invariant-loop-step
invariant-loop-step l = l.flows.items ++ flows_in (drop l.step-index l.steps) ≡ flows_in l.steps
