use Rattle.std.proofs.Common.{◌≡◌, take}
use Rattle.std.specs.List.{flat_map}
use Rattle.net_cells.specs.Order.{server_cells}
use Rattle.net_cells.proofs.order.cells.Given as goal

abbrev pub invariant-loop-server : goal.invariant-loop-server
invariant-loop-server l = l.cells.items ≡ flat_map (server_cells l.net) (take l.server-index l.order)
