use Rattle.std.proofs.Common.{◌≡◌, ◌++◌, map, take}
use Rattle.std.specs.List.{filter}
use Rattle.net_cells.specs.Order.{at_visit}
use Rattle.net_cells.specs.Visits.{goes_on}
use Rattle.net_cells.proofs.order.push_going_on.Given as goal

abbrev pub invariant-loop-v : goal.invariant-loop-v
invariant-loop-v l =
    l.cells.items ≡ l.initial.cells.items ++ map (at_visit l.kind) (filter (goes_on l.net) (take l.v-index l.here))
