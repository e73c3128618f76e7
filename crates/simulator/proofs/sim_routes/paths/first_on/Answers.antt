use Rattle.std.proofs.Common.{sym}
use Rattle.simulator.proofs.sim_routes.Places.{first_some, first_missing}
use Rattle.simulator.proofs.sim_routes.paths.first_on.Goals as goal

pub returns-in-Some : goal.returns-in-Some
returns-in-Some c = sym (first_some c.args.path.now c.args.queues.now c.in-Some.server c.requires (sym c.in-Some.ensures))

pub returns-in-None : goal.returns-in-None
returns-in-None c = sym (first_missing c.args.path.now c.args.queues.now (sym c.in-None.ensures))
