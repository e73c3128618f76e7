use Rattle.tree_bounds.specs.Tables.{items_of}
use Rattle.bounds_command.proofs.Rates.{Adding}
use Rattle.bounds_command.proofs.loads.add_link.Given as goal

abbrev pub invariant-loop-node : goal.invariant-loop-node
invariant-loop-node l = Adding l.network l.number l.rate l.node-index l.node-items (items_of l.rates)
