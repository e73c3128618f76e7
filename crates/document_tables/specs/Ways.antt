-- What a row of links reaches: the branch with its way over the tree of its link, which is over the ports that the row names,
-- in their order; and the link with the row's numbers on the grid of networks, in the queues of its priority. Own choice.
use Rattle.std.specs.Prelude.{◌≡◌, ◌<◌, ℕ, List, [], ◌∷◌, length, map, get_or, slice_get, Option, Some, None, Ok}
use Rattle.csv_rows.specs.Rows.{Row}
use Rattle.table_cells.specs.Amounts.{rounded_down, rounded_up}
use Rattle.tree_network.specs.Networks.{no_node}
use Rattle.tree_network.specs.declared.network.Node.{Node}
use Rattle.document_rows.specs.declared.heads.LinkHead.{LinkHead}
use Rattle.document_rows.specs.Heads.{link_head, row_name}
use Rattle.document_rows.specs.LinkRows.{LinkText, link_row, frame_on_wire}
use Rattle.document_tables.specs.Documents.{DocumentText}
use Rattle.document_tables.specs.Grids.{PortOnGrid, LinkOnGrid, BranchOnGrid, microsecond, millisecond}
use Rattle.document_tables.specs.Paths.{queue_at}
use Rattle.document_tables.specs.Tables.{LineRow}
use Rattle.document_tables.specs.Trees.{last_of}

-- ---- over the nodes of a tree
abbrev pub port_of : List Node → ℕ → ℕ
port_of nodes place = (get_or nodes place no_node).port

abbrev pub queue_in : List Node → ℕ → ℕ
queue_in nodes place = (get_or nodes place no_node).queue

-- nodes at these places, the first of which hangs on that at `from`, or on none, and each other one on the one before it
abbrev pub HangInTurn : List Node → (from : Option ℕ) → List ℕ → Type 0
HangInTurn nodes from [] = Unit {0}
HangInTurn nodes from (place ∷ places) =
    (place < length nodes) × ((get_or nodes place no_node).from ≡ from) × HangInTurn nodes (Some place) places

-- from where the frames begin to the node at `end`, over these ports
pub record IsWay (nodes : List Node) (ports places : List ℕ) (end : ℕ) : Type 0 where
  pub hang : HangInTurn nodes None places
  pub over : map (port_of nodes) places ≡ ports
  pub ends : last_of None places ≡ Some end

-- ---- rows
-- A link has the numbers of a row: its frame, with so many bytes on the wire beside its own, in bits; its gap in picoseconds,
-- rounded down; and its jitter, rounded up.
pub record IsLinkOfRow (overhead : ℕ) (text : LinkText) (link : LinkOnGrid) : Type 0 where
  pub frame : link.frame ≡ frame_on_wire text.largest_frame overhead
  pub gap : link.gap ≡ rounded_down millisecond text.gap
  pub jitter : link.jitter ≡ rounded_up microsecond text.jitter

-- The branch of a row: its link has the row's name and numbers, its deadline is the row's, and on the link's tree its way to
-- its end is over the ports that the row's path names, in that order, at each in the queue of the row's priority.
pub record IsBranchOfRow (overhead : ℕ) (head : LinkHead) (d : DocumentText) (row : Row) (b : BranchOnGrid) : Type 0 where
  pub name : List ℕ
  pub is_named : row_name head.width head.name row ≡ Ok name
  pub of_link : slice_get d.link_names b.link ≡ Some name
  pub text : LinkText
  pub says : link_row head row ≡ Ok text
  pub deadline : b.deadline ≡ text.deadline
  pub link : LinkOnGrid
  pub link_is : slice_get d.links b.link ≡ Some link
  pub numbers : IsLinkOfRow overhead text link
  pub ports : List ℕ
  pub named : map (slice_get d.port_names) ports ≡ map Some text.path
  pub places : List ℕ
  pub way : IsWay link.nodes ports places b.node
  -- the ports by what they are
  pub passed : List PortOnGrid
  pub passed_are : map (slice_get d.ports) ports ≡ map Some passed
  pub queues : map (queue_in link.nodes) places ≡ map (λ port. queue_at port.discipline text.priority) passed

-- each row of links has its branch, in their order
pub record AreBranchesOf (overhead : ℕ) (rows : List LineRow) (d : DocumentText) : Type 0 where
  pub first : LineRow
  pub behind : List LineRow
  pub rows_are : rows ≡ first ∷ behind
  pub head : LinkHead
  pub head_is : link_head first.cells ≡ Ok head
  pub all : length d.branches ≡ length behind
  pub each : (k : ℕ) (row : LineRow) (b : BranchOnGrid) → slice_get behind k ≡ Some row → slice_get d.branches k ≡ Some b
      → IsBranchOfRow overhead head d row.cells b
