use Rattle.net_model.specs.NetRoutes.{routes_of}
use Rattle.simulator.specs.run_measures.Levels.{Tells}
use Rattle.simulator.proofs.run_measures.levels.peaks.Given as goal

abbrev pub invariant-loop-place : goal.invariant-loop-place
invariant-loop-place l = Tells (routes_of l.net) l.run l.place l.levels
