use Rattle.tree_bounds.proofs.PartsMade.{no_parts}
use Rattle.tree_bounds.proofs.incoming.all_parts.Goals as goal

pub returns-in-None : goal.returns-in-None
returns-in-None c = no_parts c.args.network.now c.args.groups.now c.loop-group.group-index _ c.loop-group-test.true c.in-None.ensures
