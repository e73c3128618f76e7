use Rattle.simulator.proofs.sim_routes.Places.{NoneBefore}
use Rattle.run_check.proofs.ways.stands_before.Given as goal

abbrev pub invariant-loop-at : goal.invariant-loop-at
invariant-loop-at l = record { server_later : NoneBefore l.path l.server l.at-index; other_later : NoneBefore l.path l.other l.at-index }
