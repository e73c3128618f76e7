use Rattle.std.proofs.Common.{◌≡◌, map, take}
use Rattle.document_rows.specs.PortRows.{port_view}
use Rattle.document_tables.specs.Grids.{grid_port, port_on_grid}
use Rattle.document_tables.proofs.grid.ports_on_grid.Given as goal

abbrev pub invariant-loop-place : goal.invariant-loop-place
invariant-loop-place l = map grid_port l.ports.items ≡ map port_on_grid (map port_view (take l.place l.rows))
