-- Tables on the grid of networks: picoseconds, grains a second, bits. What a server does is rounded down, what it takes
-- and what may arrive is rounded up. Own choice.
use Rattle.std.specs.Prelude.{ℕ, ◌+◌, nat_eq, List, [], ◌∷◌, map, position, slice_get, unwrap_or, Option, Some, None, option_map}
use Rattle.tree_network.specs.declared.network.Gate.{Gate}
use Rattle.tree_network.specs.declared.network.Node.{Node}
use Rattle.tree_network.specs.declared.network.Port.{Port}
use Rattle.tree_network.specs.declared.network.Link.{Link}
use Rattle.table_cells.specs.declared.amount.Amount.{Amount}
use Rattle.table_cells.specs.Amounts.{rounded_down, rounded_up}
use Rattle.document_rows.specs.declared.disciplines.GateRow.{GateRow}
use Rattle.document_rows.specs.Disciplines.{DisciplineText, discipline_view}
use Rattle.document_rows.specs.PortRows.{PortText}
use Rattle.document_rows.specs.LinkRows.{frame_on_wire}
use Rattle.document_tables.specs.declared.links.LinkKeys.{LinkKeys}
use Rattle.document_tables.specs.Links.{BranchText, paths_of}
use Rattle.document_tables.specs.Paths.{queue_at}
use Rattle.document_tables.specs.Stops.{Stop, stops_of}
use Rattle.document_tables.specs.Trees.{last_of}

-- ---- numbers
-- microseconds and milliseconds in picoseconds, Mbit/s in grains of 1/1024 bit a second
abbrev pub microsecond : ℕ
microsecond = 1000000

abbrev pub millisecond : ℕ
millisecond = 1000000000

abbrev pub megabit : ℕ
megabit = 1024000000

-- ---- ports
abbrev pub gate_on_grid : GateRow → Gate
gate_on_grid gate = record { cycle = rounded_up microsecond gate.cycle; slot = rounded_down microsecond gate.slot }

-- a port of a network, with its quanta as a list
pub record PortOnGrid : Type 0 where
  pub rate : ℕ
  pub pace : ℕ
  pub latency : ℕ
  pub link : ℕ
  pub discipline : DisciplineText
  pub gate : Option Gate

abbrev pub port_on_grid : PortText → PortOnGrid
port_on_grid port = record {
  rate = rounded_down megabit port.rate;
  pace = rounded_up megabit port.rate;
  latency = rounded_up microsecond port.latency;
  link = rounded_up microsecond port.link;
  discipline = port.discipline;
  gate = option_map gate_on_grid port.gate;
}

abbrev pub grid_port : Port → PortOnGrid
grid_port p = record {
  rate = p.rate;
  pace = p.pace;
  latency = p.latency;
  link = p.link;
  discipline = discipline_view p.discipline;
  gate = p.gate;
}

-- ---- trees
-- the place of a port in a tree
abbrev pub place_of : List Stop → ℕ → Option ℕ
place_of stops port = position (nat_eq port) (map (λ s. s.0) stops)

abbrev pub place_after : List Stop → Option ℕ → Option ℕ
place_after stops None = None
place_after stops (Some port) = place_of stops port

-- the queue of a priority at the port of a number
abbrev pub queue_of : Option PortText → (priority : ℕ) → ℕ
queue_of None priority = 0
queue_of (Some port) priority = queue_at port.discipline priority

abbrev pub node_of : List PortText → (priority : ℕ) → List Stop → Stop → Node
node_of ports priority stops stop = record {
  port = stop.0;
  queue = queue_of (slice_get ports stop.0) priority;
  from = place_after stops stop.1;
}

abbrev pub nodes_of : List PortText → (priority : ℕ) → List Stop → List Node
nodes_of ports priority stops = map (node_of ports priority stops) stops

-- ---- links
pub record LinkOnGrid : Type 0 where
  pub frame : ℕ
  pub gap : ℕ
  pub jitter : ℕ
  pub nodes : List Node

abbrev pub link_on_grid : List PortText → (overhead : ℕ) → LinkKeys → List Stop → LinkOnGrid
link_on_grid ports overhead keys stops = record {
  frame = frame_on_wire keys.largest_frame overhead;
  gap = rounded_down millisecond keys.gap;
  jitter = rounded_up microsecond keys.jitter;
  nodes = nodes_of ports keys.priority stops;
}

abbrev pub grid_link : Link → LinkOnGrid
grid_link l = record { frame = l.frame; gap = l.gap; jitter = l.jitter; nodes = l.nodes.items }

-- the links from a number on, each over the tree of its paths
unfoldable pub links_from : List PortText → (overhead : ℕ) → List BranchText → (number : ℕ) → List LinkKeys → List LinkOnGrid
links_from ports overhead branches number [] = []
links_from ports overhead branches number (keys ∷ rest) =
    link_on_grid ports overhead keys (stops_of (paths_of number branches)) ∷ links_from ports overhead branches (number + 1) rest

-- ---- branches
-- the link of a branch, the place of its last port in the link's tree, and its deadline in microseconds
pub record BranchOnGrid : Type 0 where
  pub link : ℕ
  pub node : ℕ
  pub deadline : Option Amount

-- where a path ends in a tree
abbrev pub end_of : List Stop → List ℕ → ℕ
end_of stops path = unwrap_or (place_after stops (last_of None path)) 0

abbrev pub branch_on_grid : List BranchText → BranchText → BranchOnGrid
branch_on_grid branches b =
    record { link = b.link; node = end_of (stops_of (paths_of b.link branches)) b.path; deadline = b.deadline }
