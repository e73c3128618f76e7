use Rattle.tree_bounds.specs.Tables.{items_of, row_at}
use Rattle.tree_bounds.proofs.Bounded.{BoundsBelow}
use Rattle.tree_bounds.proofs.bounds.link_bounds.Given as goal

abbrev pub invariant-loop-node : goal.invariant-loop-node
invariant-loop-node l = BoundsBelow l.network (row_at (items_of l.rows)) l.link l.node-index l.bounds.items
