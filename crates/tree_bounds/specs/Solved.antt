-- Rows and bounds, as far as they go. Own choice.
use Rattle.std.specs.Prelude.{Option, Some, ◌≡◌, ◌<◌, ℕ, suc, List, [], length, get_or, slice_get}
use Rattle.arrival_stairs.specs.Stairs.{IsStair}
use Rattle.arrival_stairs.specs.declared.stairs.Stair.{Stair}
use Rattle.arrival_lines.specs.declared.grid.Queue.{Queue}
use Rattle.tree_network.specs.Networks.{port_at, queues_of}
use Rattle.tree_network.specs.declared.network.Link.{Link}
use Rattle.tree_network.specs.declared.network.Network.{Network}
use Rattle.tree_network.specs.Spots.{spot_at, spots_of}
use Rattle.tree_bounds.specs.Stairs.{first_stair_of, later_stair}
use Rattle.tree_bounds.specs.Onward.{stair_in}
use Rattle.tree_bounds.specs.Bunches.{AreRowsOf}
use Rattle.tree_bounds.specs.Equations.{MeetsEquations, comes_to}
use Rattle.tree_bounds.specs.Tables.{row_at, AreBounds}

-- one list a port, and in it one row a queue
pub record HasRows (net : Network) (rows : List (List (Option Queue))) : Type 0 where
  pub ports : length rows ≡ length net.ports.items
  pub queues : (s : ℕ) → s < length net.ports.items → length (get_or rows s []) ≡ queues_of (port_at net s).discipline

-- these rows meet the equations
pub record AreSolved (net : Network) (rows : List (List (Option Queue))) : Type 0 where
  pub stair : ℕ → Option Stair
  pub equations : MeetsEquations net (row_at rows) stair
  pub each : HasRows net rows

-- the bounds of the first n links
pub record HaveBounds (net : Network) (row : ℕ → ℕ → Option Queue) (n : ℕ) (bounds : List (List (Option ℕ))) : Type 0 where
  pub count : length bounds ≡ n
  pub each : (i : ℕ) (link : Link) → i < n → slice_get net.links.items i ≡ Some link → AreBounds net row link (get_or bounds i [])

-- ---- by the plan
pub record AreAllStairs (stairs : List (Option Stair)) : Type 0 where
  pub each : (n : ℕ) (stair : Stair) → stair_in stairs n ≡ Some stair → IsStair stair

-- the first k ports of an order are done
pub record AreDone (net : Network) (order : List ℕ) (k : ℕ) (rows : List (List (Option Queue))) (stairs : List (Option Stair)) : Type 0 where
  pub ports : length rows ≡ length net.ports.items
  pub stairs_each : length stairs ≡ length (spots_of net)
  pub in_range : AreAllStairs stairs
  pub begins : (n : ℕ) → n < length (spots_of net) → (spot_at (spots_of net) n).source ≡ 0
      → stair_in stairs n ≡ first_stair_of (slice_get net.links.items (spot_at (spots_of net) n).link)
  pub goes_on : (n i : ℕ) → n < length (spots_of net) → i < k → (spot_at (spots_of net) n).source ≡ suc (get_or order i 0)
      → stair_in stairs n ≡ later_stair (stair_in stairs (spot_at (spots_of net) n).from)
      (row_at rows (get_or order i 0) (spot_at (spots_of net) (spot_at (spots_of net) n).from).queue)
  pub rows_each : (i : ℕ) → i < k → AreRowsOf (port_at net (get_or order i 0)) (comes_to net (λ n. stair_in stairs n) (get_or order i 0)) (get_or rows (get_or order i 0) [])
