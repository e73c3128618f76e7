use Rattle.tree_bounds.specs.Tables.{items_of}
use Rattle.bounds_command.proofs.Rates.{NoRates}
use Rattle.bounds_command.proofs.loads.no_rates.Given as goal

abbrev pub invariant-loop-port : goal.invariant-loop-port
invariant-loop-port l = NoRates l.ports l.port-index (items_of l.rates.items)
