-- Where a queue has no promise, the root of it: at that port, or at one before it on the trees of links, a queue's load is above its rate, or a
-- number passes its limit.
use Rattle.std.specs.Prelude.{Option, Some, None, ◌≡◌, ◌⊎◌, ◌+◌, ◌<◌, ◌≤◌, ◌^◌, ℕ, suc, List, length, map}
use Rattle.std.specs.List.{sum_by}
use Rattle.arrival_lines.specs.declared.grid.Part.{Part}
use Rattle.arrival_lines.specs.declared.grid.Queue.{Queue}
use Rattle.arrival_stairs.specs.BelowLines.{stair_burst, stair_rate}
use Rattle.arrival_stairs.specs.declared.stairs.Stair.{Stair}
use Rattle.port_bounds.specs.StairsIncoming.{StairsIn}
use Rattle.tree_network.specs.Networks.{IsNetwork, port_at, queues_of}
use Rattle.tree_network.specs.declared.network.Discipline.{Discipline}
use Rattle.tree_network.specs.declared.network.Discipline.TheVariants.{Fifo, Priority, Drr}
use Rattle.tree_network.specs.declared.network.Network.{Network}
use Rattle.tree_network.specs.Spots.{spot_at, spots_of}
use Rattle.tree_bounds.specs.Bunches.{arriving_of}
use Rattle.tree_bounds.specs.Equations.{MeetsEquations, arrivals_of, comes_to}
use Rattle.tree_bounds.specs.Groups.{groups_at, part_of, sum_burst, sum_rate}
use Rattle.tree_bounds.specs.Lines.{line_of}
use Rattle.tree_bounds.specs.Tables.{row_in, IsTableOf}
use Rattle.tree_bounds.specs.declared.analysis.Table.{Table}
use Rattle.tree_bounds.specs.guarantee.Causes.{IsOverloaded, IsLong}

-- queue p is queue q, or may be served before it
abbrev pub CountsAt : Discipline → (p q : ℕ) → Type 0
CountsAt Fifo p q = p ≡ q
CountsAt (Priority n) p q = p ≤ q
CountsAt (Drr quanta) p q = Unit {0}

-- spot n of the links' trees is of queue p at port s
pub record IsAt (net : Network) (s p n : ℕ) : Type 0 where
  pub inside : n < length (spots_of net)
  pub port : (spot_at (spots_of net) n).port ≡ s
  pub queue : (spot_at (spots_of net) n).queue ≡ p

-- the queue before spot n on its link's tree
abbrev pub queue_before : Network → ℕ → ℕ
queue_before net n = (spot_at (spots_of net) (spot_at (spots_of net) n).from).queue

-- the sums of the links that come to queue p of port s, one part for each port before
abbrev pub sums_at : Network → (ℕ → Option Stair) → (s p : ℕ) → List Part
sums_at net stair s p = map (part_of net) (groups_at (spots_of net) (λ n. line_of (stair n)) s p (length net.ports.items + 1))

-- ---- at queue p of port s
pub data PassesLimit (net : Network) (row : ℕ → ℕ → Option Queue) (stair : ℕ → Option Stair) (s p : ℕ) : Type 0 where
  -- a link comes from port a, and its jitter with the delay there is 2 ^ 62 picoseconds or more
  jitter : (n a : ℕ) (own : Stair) (queue : Queue) → IsAt net s p n → (spot_at (spots_of net) n).source ≡ suc a
      → stair (spot_at (spots_of net) n).from ≡ Some own → row a (queue_before net n) ≡ Some queue → 2 ^ 62 ≤ own.jitter + queue.delay
      → PassesLimit net row stair s p
  -- the burst of a link's line is 2 ^ 58 grains or more, or its rate does not fit 64 bits
  line : (n : ℕ) (own : Stair) → IsAt net s p n → stair n ≡ Some own → (2 ^ 58 ≤ stair_burst own) ⊎ (2 ^ 64 ≤ stair_rate own)
      → PassesLimit net row stair s p
  -- the links' bursts together are 2 ^ 58 grains or more, or their rates 2 ^ 50 grains a second, as no port is fast
  together : (2 ^ 58 ≤ sum_by sum_burst (sums_at net stair s p)) ⊎ (2 ^ 50 ≤ sum_by sum_rate (sums_at net stair s p))
      → PassesLimit net row stair s p

-- ---- of queue q of port s: here, or at the queue of port a from which a link comes to it or to one that may be served before it
pub data HasRoot (net : Network) (row : ℕ → ℕ → Option Queue) (stair : ℕ → Option Stair) : (s q : ℕ) → Type 0 where
  by_load : (s q : ℕ) → IsOverloaded (port_at net s) (arrivals_of net stair s) q → HasRoot net row stair s q
  by_delay : (s q : ℕ) (stairs : List StairsIn) → map arriving_of stairs ≡ comes_to net stair s
      → IsLong (port_at net s) (arrivals_of net stair s) stairs q → HasRoot net row stair s q
  by_limit : (s q p : ℕ) → CountsAt (port_at net s).discipline p q → PassesLimit net row stair s p → HasRoot net row stair s q
  by_earlier : (s q p n a : ℕ) → CountsAt (port_at net s).discipline p q → IsAt net s p n → (spot_at (spots_of net) n).source ≡ suc a
      → row a (queue_before net n) ≡ None → HasRoot net row stair a (queue_before net n) → HasRoot net row stair s q

-- of each queue that has no promise in a table
pub record IsRootedIn (net : Network) (table : Table) (s q : ℕ) : Type 0 where
  pub stair : ℕ → Option Stair
  pub equations : MeetsEquations net (row_in table) stair
  pub root : HasRoot net (row_in table) stair s q

abbrev pub NoneHasARoot : Type 0
NoneHasARoot = (net : Network) (table : Table) (s q : ℕ) → IsNetwork net → IsTableOf net table → s < length net.ports.items
    → q < queues_of (port_at net s).discipline → row_in table s q ≡ None → IsRootedIn net table s q
