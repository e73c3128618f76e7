use Rattle.simulator.proofs.sim_routes.Places.{NoneBefore}
use Rattle.run_check.proofs.ways.passes.Given as goal

abbrev pub invariant-loop-at : goal.invariant-loop-at
invariant-loop-at l = NoneBefore l.path l.server l.at-index
