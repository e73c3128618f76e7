use Rattle.tree_bounds.specs.Solved.{AreDone}
use Rattle.tree_bounds.specs.Tables.{items_of}
use Rattle.tree_bounds.proofs.analysis.rows_in_order.Given as goal

abbrev pub invariant-loop-port : goal.invariant-loop-port
invariant-loop-port l = AreDone l.network l.plan.order.items l.port-index (items_of l.rows.items) l.stairs.items
