use Rattle.std.proofs.Common.{◌≡◌, ◌++◌, map, take}
use Rattle.net_cells.specs.Order.{at_visit}
use Rattle.net_cells.proofs.order.push_visits.Given as goal

abbrev pub invariant-loop-v : goal.invariant-loop-v
invariant-loop-v l = l.cells.items ≡ l.initial.cells.items ++ map (at_visit l.kind) (take l.v-index l.here)
