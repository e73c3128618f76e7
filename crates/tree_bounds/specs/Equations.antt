-- The equations of a network: what is promised of each queue of each port, by what the promises of the ports before bring there.
use Rattle.std.specs.Prelude.{Option, ◌≡◌, ◌<◌, ℕ, suc, List, length, slice_get}
use Rattle.arrival_stairs.specs.declared.stairs.Stair.{Stair}
use Rattle.arrival_lines.specs.declared.grid.Queue.{Queue}
use Rattle.tree_network.specs.Networks.{port_at, queues_of}
use Rattle.tree_network.specs.declared.network.Network.{Network}
use Rattle.tree_network.specs.Spots.{spot_at, spots_of}
use Rattle.port_bounds.specs.Incoming.{Incoming}
use Rattle.tree_bounds.specs.Stairs.{first_stair_of, later_stair}
use Rattle.tree_bounds.specs.Bunches.{Arriving, IsRowOf, arriving_below}
use Rattle.tree_bounds.specs.Groups.{incomings_at}
use Rattle.tree_bounds.specs.Lines.{line_of}

-- what arrives at the queues of port s: as stairs, and by their lines
abbrev pub comes_to : Network → (ℕ → Option Stair) → ℕ → List Arriving
comes_to net stair s = arriving_below net (spots_of net) stair s (queues_of (port_at net s).discipline)

abbrev pub arrivals_of : Network → (ℕ → Option Stair) → ℕ → List Incoming
arrivals_of net stair s = incomings_at net (spots_of net) (λ n. line_of (stair n)) s (queues_of (port_at net s).discipline)

-- `row s q` is promised of queue q of port s, and `stair n` bounds what comes to spot n
pub record MeetsEquations (net : Network) (row : ℕ → ℕ → Option Queue) (stair : ℕ → Option Stair) : Type 0 where
  -- each link begins with its own stair, and goes on with that which the delay of the queue before makes of it
  pub begins : (n : ℕ) → n < length (spots_of net) → (spot_at (spots_of net) n).source ≡ 0
      → stair n ≡ first_stair_of (slice_get net.links.items (spot_at (spots_of net) n).link)
  pub goes_on : (n a : ℕ) → n < length (spots_of net) → (spot_at (spots_of net) n).source ≡ suc a
      → stair n ≡ later_stair (stair (spot_at (spots_of net) n).from) (row a (spot_at (spots_of net) (spot_at (spots_of net) n).from).queue)
  -- at each port the rows are those of what arrives
  pub rows : (s q : ℕ) → s < length net.ports.items → q < queues_of (port_at net s).discipline
      → IsRowOf (port_at net s) (comes_to net stair s) q (row s q)
