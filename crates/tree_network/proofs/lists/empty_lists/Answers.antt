use Rattle.tree_network.proofs.ListSets.{empty_more}
use Rattle.tree_network.proofs.lists.empty_lists.Goals as goal

pub loop-count-preserved : goal.loop-count-preserved
loop-count-preserved c =
    empty_more c.loop-count.lists.items c.push.new.self.items c.in_ok-list.list c.loop-count.count-index c.in_ok-push.ensures.items c.in_ok-list.ensures.items c.loop-count.invariant
