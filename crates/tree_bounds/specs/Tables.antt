-- A table as the call answers it: rows by port and queue, bounds by link and node.
use Rattle.std.specs.Prelude.{Option, Some, None, ◌≡◌, ◌+◌, ◌<◌, ℕ, List, [], length, map, get_or, slice_get}
use Rattle.std.specs.declared.vec.Vec.{Vec}
use Rattle.arrival_stairs.specs.declared.stairs.Stair.{Stair}
use Rattle.arrival_lines.specs.declared.grid.Queue.{Queue}
use Rattle.tree_network.specs.Networks.{port_at, queues_of, node_at}
use Rattle.tree_network.specs.declared.network.Link.{Link}
use Rattle.tree_network.specs.declared.network.Network.{Network}
use Rattle.tree_network.specs.Orders.{IsNetworkOrder}
use Rattle.tree_bounds.specs.Equations.{MeetsEquations}
use Rattle.tree_bounds.specs.declared.analysis.Table.{Table}

abbrev pub items_of : {X Z : Type 0} → List (Vec X Z) → List (List X)
items_of = map (λ v. v.items)

-- the row of queue q of port s; none beyond the last
abbrev pub row_at : List (List (Option Queue)) → ℕ → ℕ → Option Queue
row_at rows s q = get_or (get_or rows s []) q None

abbrev pub row_in : Table → ℕ → ℕ → Option Queue
row_in table s q = row_at (items_of table.rows.items) s q

abbrev pub bounds_in : Table → ℕ → List (Option ℕ)
bounds_in table i = get_or (items_of table.bounds.items) i []

-- ---- how long a frame takes to the end of the link behind a node
-- at the node's port, after so long before it
abbrev pub time_after : Option ℕ → Option Queue → ℕ → Option ℕ
time_after None row link = None
time_after (Some before) None link = None
time_after (Some before) (Some queue) link = Some (before + queue.delay + link)

abbrev pub time_before : List (Option ℕ) → Option ℕ → Option ℕ
time_before bounds None = Some 0
time_before bounds (Some place) = get_or bounds place None

-- that at a node
abbrev pub time_at : Network → (ℕ → ℕ → Option Queue) → Link → List (Option ℕ) → ℕ → Option ℕ
time_at net row link bounds place =
    time_after (time_before bounds (node_at link place).from) (row (node_at link place).port (node_at link place).queue)
    (port_at net (node_at link place).port).link

-- one for each node of the link
pub record AreBounds (net : Network) (row : ℕ → ℕ → Option Queue) (link : Link) (bounds : List (Option ℕ)) : Type 0 where
  pub count : length bounds ≡ length link.nodes.items
  pub each : (place : ℕ) → place < length link.nodes.items → get_or bounds place None ≡ time_at net row link bounds place

-- ---- the table
pub record IsTableOf (net : Network) (table : Table) : Type 0 where
  -- an order in which no link goes back
  pub order : List ℕ
  pub goes_forward : IsNetworkOrder net order
  pub stair : ℕ → Option Stair
  pub equations : MeetsEquations net (row_in table) stair
  pub ports : length table.rows.items ≡ length net.ports.items
  pub queues : (s : ℕ) → s < length net.ports.items → length (get_or (items_of table.rows.items) s []) ≡ queues_of (port_at net s).discipline
  pub links : length table.bounds.items ≡ length net.links.items
  pub bounds : (i : ℕ) (link : Link) → slice_get net.links.items i ≡ Some link → AreBounds net (row_in table) link (bounds_in table i)
