use Rattle.tree_network.proofs.ListSets.{added_to}
use Rattle.tree_network.proofs.lists.add_to.Goals as goal

pub returns : goal.returns
returns c =
    added_to c.args.lists.now.items c.args.k c.index_mut.result.now c.push.new.self c.args.number c.requires c.index_mut.ensures.value c.in_ok-push.ensures.items
