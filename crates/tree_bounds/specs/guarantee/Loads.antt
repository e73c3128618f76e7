-- Loads above rates, in grains a second: a queue whose load is above its rate, as its discipline has it (`IsLoadedAboveRate`), has no promise; and
-- one has none only by such a load or by a limit. (Le Boudec and Thiran, chapter 1: what comes faster than it is served waits without bound;
-- residual service, of priorities; Bouillard, Boyer and Le Corronc, deficit round robin.)
use Rattle.std.specs.Prelude.{Option, None, ◌≡◌, ◌+◌, ◌*◌, ◌/◌, ◌<◌, ◌==◌, ◌&&◌, ℕ, zero, suc, Bool, List, length, map, get_or, sum, if◌then◌else◌}
use Rattle.std.specs.List.{sum_by}
use Rattle.arrival_lines.specs.declared.grid.Queue.{Queue}
use Rattle.arrival_stairs.specs.declared.stairs.Stair.{Stair}
use Rattle.port_bounds.specs.Ports.{rate_behind}
use Rattle.port_bounds.specs.StairsIncoming.{StairsIn}
use Rattle.tree_network.specs.Networks.{IsNetwork, port_at, queues_of}
use Rattle.tree_network.specs.Spots.{spot_at, spots_of}
use Rattle.tree_network.specs.declared.network.Discipline.{Discipline}
use Rattle.tree_network.specs.declared.network.Discipline.TheVariants.{Fifo, Priority, Drr}
use Rattle.tree_network.specs.declared.network.Link.{Link}
use Rattle.tree_network.specs.declared.network.Network.{Network}
use Rattle.tree_network.specs.declared.network.Node.{Node}
use Rattle.tree_bounds.specs.Bunches.{arriving_of}
use Rattle.tree_bounds.specs.Equations.{MeetsEquations, arrivals_of, comes_to}
use Rattle.tree_bounds.specs.Lines.{rate_of}
use Rattle.tree_bounds.specs.Tables.{row_in, IsTableOf}
use Rattle.tree_bounds.specs.declared.analysis.Table.{Table}
use Rattle.tree_bounds.specs.guarantee.Causes.{IsLong, IsOverloaded}
use Rattle.tree_bounds.specs.guarantee.Roots.{CountsAt, IsAt, PassesLimit, queue_before}

-- ---- the load of a queue: the rates of the links that pass it, each a frame with its overhead over the gap, in grains a second, rounded up
-- the node is at queue q of port s
abbrev pub is_at : (s q : ℕ) → Node → Bool
is_at s q node = (node.port == s) && (node.queue == q)

-- what a node of a link of this rate brings there
abbrev pub brought : (s q rate : ℕ) → Node → ℕ
brought s q rate node = if is_at s q node then rate else 0

-- what a link brings there: its rate, by each of its nodes there (a link of a network has at most one at a port)
abbrev pub brought_by : (s q : ℕ) → Link → ℕ
brought_by s q link = sum_by (brought s q (rate_of link)) link.nodes.items

-- all links together
abbrev pub rates_at : Network → (s q : ℕ) → ℕ
rates_at net s q = sum_by (brought_by s q) net.links.items

-- the first n of some numbers together
abbrev pub sum_below : (ℕ → ℕ) → ℕ → ℕ
sum_below f zero = 0
sum_below f (suc n) = sum_below f n + f n

-- the loads of the first q queues of port s together
abbrev pub rates_below : Network → (s q : ℕ) → ℕ
rates_below net s q = sum_below (rates_at net s) q

-- ---- it is above the rate
-- First in, first out: the queue's own load. Priority: that of the queues above and its own together. (Le Boudec and Thiran, residual service.)
-- Deficit round robin: its own is above its share by the quanta, rounded down, and that of all queues together above the whole rate.
-- (Bouillard, Boyer and Le Corronc, deficit round robin.)
abbrev pub IsMoreThan : Discipline → (rate : ℕ) → Network → (s q : ℕ) → Type 0
IsMoreThan Fifo rate net s q = rate < rates_at net s q
IsMoreThan (Priority n) rate net s q = rate < rates_below net s (suc q)
IsMoreThan (Drr quanta) rate net s q = (rate * get_or quanta.items q 0 / sum quanta.items < rates_at net s q) × (rate < rates_below net s (length quanta.items))

-- a link passes the queue, and the load is above the port's rate, or behind a gate above what the open part of its cycle leaves of it, rounded
-- down to a grain a second
pub record IsLoadedAboveRate (net : Network) (s q : ℕ) : Type 0 where
  pub some : 0 < rates_at net s q
  pub more : IsMoreThan (port_at net s).discipline (rate_behind (port_at net s).gate (port_at net s).rate) net s q

-- so it has no number in any table of the network
abbrev pub LoadAboveRateHasNone : Type 0
LoadAboveRateHasNone = (net : Network) (table : Table) (s q : ℕ) → IsNetwork net → IsTableOf net table → s < length net.ports.items
    → q < queues_of (port_at net s).discipline → IsLoadedAboveRate net s q → row_in table s q ≡ None

-- ---- and the other way: where the parts that come to a queue are too fast for its port, the load of the links that pass it is above its rate
abbrev pub OverloadIsLoad : Type 0
OverloadIsLoad = (net : Network) (row : ℕ → ℕ → Option Queue) (stair : ℕ → Option Stair) (s q : ℕ) → IsNetwork net → MeetsEquations net row stair
    → s < length net.ports.items → q < queues_of (port_at net s).discipline → 0 < rates_at net s q → IsOverloaded (port_at net s) (arrivals_of net stair s) q
    → IsLoadedAboveRate net s q

-- ---- so a queue has no number only by a load above its rate or by a limit: here, or at the queue of port a from which a link comes to it or to one
-- that may be served before it
pub data HasLoadOrLimit (net : Network) (row : ℕ → ℕ → Option Queue) (stair : ℕ → Option Stair) : (s q : ℕ) → Type 0 where
  -- the queue's load is above its rate
  by_load : (s q : ℕ) → IsLoadedAboveRate net s q → HasLoadOrLimit net row stair s q
  -- each delay of the queue itself is of 2 ^ 50 picoseconds or more
  by_delay : (s q : ℕ) (stairs : List StairsIn) → map arriving_of stairs ≡ comes_to net stair s
      → IsLong (port_at net s) (arrivals_of net stair s) stairs q → HasLoadOrLimit net row stair s q
  -- a number passes its limit at queue p, which is this one, one above it by priority, or any of deficit round robin
  by_limit : (s q p : ℕ) → CountsAt (port_at net s).discipline p q → PassesLimit net row stair s p → HasLoadOrLimit net row stair s q
  -- a link comes to such a queue p from one that has no number, and this has a load or limit
  by_earlier : (s q p n a : ℕ) → CountsAt (port_at net s).discipline p q → IsAt net s p n → (spot_at (spots_of net) n).source ≡ suc a
      → row a (queue_before net n) ≡ None → HasLoadOrLimit net row stair a (queue_before net n) → HasLoadOrLimit net row stair s q

-- by the stairs of a table
pub record HasLoadOrLimitIn (net : Network) (table : Table) (s q : ℕ) : Type 0 where
  pub stair : ℕ → Option Stair
  pub equations : MeetsEquations net (row_in table) stair
  pub root : HasLoadOrLimit net (row_in table) stair s q

-- Each queue without a number has one. Where no load of the network is above its rate only limits are left, since then nothing has `by_load`.
abbrev pub NoneHasALoadOrLimit : Type 0
NoneHasALoadOrLimit = (net : Network) (table : Table) (s q : ℕ) → IsNetwork net → IsTableOf net table → s < length net.ports.items
    → q < queues_of (port_at net s).discipline → row_in table s q ≡ None → HasLoadOrLimitIn net table s q
