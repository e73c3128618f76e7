use Rattle.std.proofs.Common.{◌∙◌}
use Rattle.net_model.specs.Views.{server_of}
use Rattle.simulator.proofs.sim_routes.Places.{link_is, link_none}
use Rattle.simulator.proofs.sim_routes.routes.link_of.Goals as goal

pub returns-in-Some : goal.returns-in-Some
returns-in-Some c = link_is c.args.net.now c.args.number (server_of c.in-Some.found.now) c.in-Some.ensures.server

pub returns-in-None : goal.returns-in-None
returns-in-None c = c.zero.ensures ∙ link_none c.args.net.now c.args.number c.in-None.ensures.server
