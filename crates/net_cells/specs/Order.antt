-- The order in which the cells of a network are taken: server by server, in a given order; at a server kind by kind,
-- and in a kind by flow or by queue; then the whole paths, kind by kind and by flow. (Own choice.)
use Rattle.std.specs.Prelude.{ℕ, List, [], ◌++◌, length, map}
use Rattle.std.specs.List.{filter, flat_map, range_with_len}
use Rattle.net_model.specs.Networks.{Net}
use Rattle.net_cells.specs.declared.cell.Cell.{Cell}
use Rattle.net_cells.specs.declared.cell.Kind.{Kind}
use Rattle.net_cells.specs.declared.cell.Scope.{Scope}
use Rattle.net_cells.specs.declared.cell.Scope.TheVariants.{EachHop, EachHopButLast, EachQueue, EachPriorityQueue, EachPath}
use Rattle.net_cells.specs.Numbered.{is_live, levels, queues}
use Rattle.net_cells.specs.Visits.{Visit, visits, goes_on}
use Rattle.net_cells.specs.Cells.{cell_of, scope_of, server_kinds, path_kinds}

abbrev pub at_visit : Kind → Visit → Cell
at_visit kind v = cell_of kind v.flow v.hop

-- the cells of a kind at a server
abbrev pub cells_in_scope : Net → ℕ → Kind → Scope → List Cell
cells_in_scope net s kind EachHop = map (at_visit kind) (visits net s)
cells_in_scope net s kind EachHopButLast = map (at_visit kind) (filter (goes_on net) (visits net s))
cells_in_scope net s kind EachQueue = map (cell_of kind s) (range_with_len 0 (queues net s))
cells_in_scope net s kind EachPriorityQueue = map (cell_of kind s) (range_with_len 0 (levels net s))
cells_in_scope net s kind EachPath = []

abbrev pub kind_cells : Net → ℕ → Kind → List Cell
kind_cells net s kind = cells_in_scope net s kind (scope_of kind)

-- the cells at a server
abbrev pub server_cells : Net → ℕ → List Cell
server_cells net s = flat_map (kind_cells net s) server_kinds

-- the cells of a kind of whole paths
abbrev pub path_cells : Net → Kind → List Cell
path_cells net kind = map (λ i. cell_of kind i 0) (filter (is_live net) (range_with_len 0 (length net.flows)))

-- all cells, by an order of the servers
unfoldable pub evaluation_order : Net → List ℕ → List Cell
evaluation_order net order = flat_map (server_cells net) order ++ flat_map (path_cells net) path_kinds
