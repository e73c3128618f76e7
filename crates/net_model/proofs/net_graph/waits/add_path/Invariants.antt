use Rattle.std.proofs.Common.{take}
use Rattle.net_model.specs.net_graph.Waits.{lists_of, AddsSteps}
use Rattle.net_model.proofs.net_graph.waits.add_path.Given as goal

abbrev pub invariant-loop-hop : goal.invariant-loop-hop
invariant-loop-hop l = AddsSteps (lists_of l.initial.before.items) (lists_of l.before.items) (take l.hop l.path)
