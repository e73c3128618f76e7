use Rattle.std.proofs.Common.{◌≡◌, drop, length}
use Rattle.net_model.specs.NetRoutes.{routes_of}
use Rattle.simulator.specs.run_measures.Numbered.{flows_in}
use Rattle.simulator.specs.run_measures.Tallies.{IsTold}
use Rattle.simulator.proofs.run_measures.worst.worst_among.Given as goal

abbrev pub invariant-loop-place : goal.invariant-loop-place
invariant-loop-place l =
    IsTold (routes_of l.net) l.fn.end (drop l.place l.steps) (length l.net.flows) l.tally × (l.tally.flows.items ≡ flows_in l.steps)
