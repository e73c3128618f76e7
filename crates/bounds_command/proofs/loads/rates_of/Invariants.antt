use Rattle.std.proofs.Common.{take}
use Rattle.tree_bounds.specs.Tables.{items_of}
use Rattle.bounds_command.specs.Loads.{AreRates}
use Rattle.bounds_command.proofs.loads.rates_of.Given as goal

abbrev pub invariant-loop-number : goal.invariant-loop-number
invariant-loop-number l = AreRates l.network.ports.items (take l.number l.network.links.items) (items_of l.rates.items)
