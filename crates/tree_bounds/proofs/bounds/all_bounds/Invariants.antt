use Rattle.tree_bounds.specs.Solved.{HaveBounds}
use Rattle.tree_bounds.specs.Tables.{items_of, row_at}
use Rattle.tree_bounds.proofs.bounds.all_bounds.Given as goal

abbrev pub invariant-loop-link : goal.invariant-loop-link
invariant-loop-link l = HaveBounds l.network (row_at (items_of l.rows)) l.link-index (items_of l.bounds.items)
