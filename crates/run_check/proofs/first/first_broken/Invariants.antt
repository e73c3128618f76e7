use Rattle.net_model.specs.NetRoutes.{routes_of}
use Rattle.run_check.specs.Following.{Follows}
use Rattle.run_check.proofs.first.first_broken.Given as goal

abbrev pub invariant-loop-place : goal.invariant-loop-place
invariant-loop-place l = Follows (routes_of l.net) l.run l.place l.walk
