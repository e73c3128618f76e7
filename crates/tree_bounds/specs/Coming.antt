-- What arrives at the first queues of a port, as the code lists it. Own choice.
use Rattle.std.specs.Prelude.{Option, ◌≡◌, ◌==◌, ◌<◌, ◌+◌, ℕ, All, Bool, List, length, map}
use Rattle.arrival_stairs.specs.declared.stairs.Stair.{Stair}
use Rattle.port_bounds.specs.Incoming.{incoming, incoming_of}
use Rattle.port_bounds.specs.declared.arrivals.Arrivals.{Arrivals}
use Rattle.port_bounds.specs.StairsIncoming.{stairs_in}
use Rattle.port_bounds.specs.declared.stair_arrivals.StairArrivals.{StairArrivals}
use Rattle.tree_network.specs.declared.network.Network.{Network}
use Rattle.tree_network.specs.declared.spots.Spot.{Spot}
use Rattle.tree_network.specs.Spots.{spot_at, spots_of}
use Rattle.tree_bounds.specs.Bunches.{arriving_below, arriving_of}
use Rattle.tree_bounds.specs.Grouping.{AreInGroups}
use Rattle.tree_bounds.specs.Groups.{groups_at, incoming_of_groups, incomings_at}
use Rattle.tree_bounds.specs.Lines.{line_of}
use Rattle.tree_bounds.specs.Parts.{IsOfNetwork}
use Rattle.tree_bounds.specs.declared.groups.Group.{Group}

-- spot n is of queue q at its port
abbrev pub is_of_queue : List Spot → (q n : ℕ) → Bool
is_of_queue spots q n = (spot_at spots n).queue == q

-- the spots of queue q at port s, the groups in which their links come, and what these bring by lines
pub record IsGrouped (net : Network) (stair : ℕ → Option Stair) (s q : ℕ) (numbers : List ℕ) (groups : List Group) (lines : Arrivals) : Type 0 where
  pub inside : All (λ n. n < length (spots_of net)) numbers
  pub groups_are : groups ≡ groups_at (spots_of net) (λ n. line_of (stair n)) s q (length net.ports.items + 1)
  pub of_network : All (IsOfNetwork net) groups
  pub in_groups : AreInGroups (spots_of net) s q groups numbers
  pub lines_are : incoming_of lines ≡ incoming_of_groups net groups

-- both ways
pub record IsComing (net : Network) (stair : ℕ → Option Stair) (s count : ℕ) (by_lines : List Arrivals) (by_stairs : List StairArrivals) : Type 0 where
  pub lines : incoming by_lines ≡ incomings_at net (spots_of net) (λ n. line_of (stair n)) s count
  pub stairs : map arriving_of (stairs_in by_stairs) ≡ arriving_below net (spots_of net) stair s count
