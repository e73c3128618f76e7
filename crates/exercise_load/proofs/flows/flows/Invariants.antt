use Rattle.std.proofs.Common.{◌≡◌, Some, map, take}
use Rattle.net_model.specs.Views.{flows_of}
use Rattle.exercise_load.specs.Workloads.{flow_of}
use Rattle.exercise_load.proofs.flows.flows.Given as goal

abbrev pub invariant-loop-flow : goal.invariant-loop-flow
invariant-loop-flow l = flows_of l.made.items ≡ map (λ f. Some (flow_of f)) (take l.flow-index l.drawn)
