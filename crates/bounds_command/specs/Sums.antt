-- The bound of a branch as a sum over its way: the delays of the queues there, and the links behind them. Own choice.
use Rattle.std.specs.Prelude.{◌≡◌, ◌+◌, ℕ, List, [], ◌∷◌, map, slice_get, Option, Some, None, option_map}
use Rattle.tree_network.specs.Networks.{port_at, node_at}
use Rattle.tree_network.specs.declared.network.Node.{Node}
use Rattle.tree_network.specs.declared.network.Link.{Link}
use Rattle.tree_network.specs.declared.network.Network.{Network}
use Rattle.document_tables.specs.Documents.{DocumentText}
use Rattle.document_tables.specs.Grids.{BranchOnGrid}
use Rattle.document_tables.specs.Ways.{IsWay}
use Rattle.tree_bounds.specs.Tables.{row_in}
use Rattle.tree_bounds.specs.declared.analysis.Table.{Table}
use Rattle.bounds_report.specs.declared.rows.BranchRow.{BranchRow}
use Rattle.bounds_report.specs.declared.rows.Report.{Report}

-- how long a frame is at a node's port and on the link behind it at most, in picoseconds; none where its queue has no number
abbrev pub time_at : Network → Table → Node → Option ℕ
time_at net table node =
    option_map (λ queue. queue.delay + (port_at net node.port).link) (row_in table node.port node.queue)

abbrev pub plus : Option ℕ → Option ℕ → Option ℕ
plus None b = None
plus (Some a) None = None
plus (Some a) (Some b) = Some (a + b)

abbrev pub sum_over : Network → Table → List Node → Option ℕ
sum_over net table [] = Some 0
sum_over net table (node ∷ nodes) = plus (time_at net table node) (sum_over net table nodes)

-- the bound of each row is the sum over the way of its branch
abbrev pub AreSums : DocumentText → Network → Table → Report → Type 0
AreSums d net table report =
    (k : ℕ) (b : BranchOnGrid) (row : BranchRow) (link : Link) (ports places : List ℕ)
    → slice_get d.branches k ≡ Some b → slice_get report.branches.items k ≡ Some row
    → slice_get net.links.items b.link ≡ Some link → IsWay link.nodes.items ports places b.node
    → row.bound ≡ sum_over net table (map (node_at link) places)
