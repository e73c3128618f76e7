use Rattle.simulator.proofs.sim_routes.Places.{NoneBefore}
use Rattle.simulator.proofs.sim_routes.paths.queue_on.Given as goal

abbrev pub invariant-loop-hop : goal.invariant-loop-hop
invariant-loop-hop l = NoneBefore l.path l.server l.hop
