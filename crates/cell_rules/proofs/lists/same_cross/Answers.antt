use Rattle.cell_rules.proofs.SameHops.{cross_tells}
use Rattle.cell_rules.proofs.lists.same_cross.Goals as goal

pub returns : goal.returns
returns c =
    cross_tells c.args.old.now c.args.new.now c.args.flow c.args.hop c.server_of_hop-server.result c.queue_of_hop-queue.result
    c.server_of_hop-new_server.result c.queue_of_hop-new_queue.result c.same_hops.result c.server_of_hop-server.ensures
    c.queue_of_hop-queue.ensures c.server_of_hop-new_server.ensures c.queue_of_hop-new_queue.ensures c.same_hops.ensures
