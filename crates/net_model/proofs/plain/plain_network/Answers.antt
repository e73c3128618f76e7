use Rattle.net_model.specs.Plain.{contents}
use Rattle.net_model.proofs.PlainNets.{plain_is_accepted}
use Rattle.net_model.proofs.plain.plain_network.Goals as goal

pub new-requires : goal.new-requires
new-requires c =
    rw (c.in_ok-servers_to.ensures, c.in_ok-flows_along.ensures) (plain_is_accepted c.args.servers (contents c.args.paths.now) c.requires)
