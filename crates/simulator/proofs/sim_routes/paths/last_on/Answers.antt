use Rattle.simulator.proofs.sim_routes.Places.{last_some, last_missing}
use Rattle.simulator.proofs.sim_routes.paths.last_on.Goals as goal

pub returns-in-Some : goal.returns-in-Some
returns-in-Some c = last_some c.args.path.now c.args.queues.now c.in-Some.server.now c.requires c.in-Some.ensures.value

pub returns-in-None : goal.returns-in-None
returns-in-None c = last_missing c.args.path.now c.args.queues.now c.in-None.ensures.value
