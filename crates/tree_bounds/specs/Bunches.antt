-- What arrives at a queue as stairs: of each group its links' stairs, at most the pace of the port from which they come.
-- (Le Boudec and Thiran, stair functions; grouping of flows by their input link.)
use Rattle.std.specs.Prelude.{Option, Some, None, ◌≡◌, ◌<◌, ◌+◌, ℕ, zero, suc, List, [], ◌∷◌, ◌++◌, length, map, get_or}
use Rattle.std.specs.Option.{option_map}
use Rattle.arrival_lines.specs.declared.grid.Queue.{Queue}
use Rattle.arrival_stairs.specs.Views.{Bunch, bunches}
use Rattle.arrival_stairs.specs.declared.stairs.Stair.{Stair}
use Rattle.tree_network.specs.declared.network.Network.{Network}
use Rattle.tree_network.specs.declared.network.Port.{Port}
use Rattle.tree_network.specs.declared.spots.Spot.{Spot}
use Rattle.port_bounds.specs.StairsIncoming.{StairsIn}
use Rattle.port_bounds.specs.StairRows.{IsStairRow}
use Rattle.tree_bounds.specs.Groups.{spots_in_group, pace_line, groups_at, parts_in, longest_group}
use Rattle.tree_bounds.specs.Lines.{line_of}
use Rattle.tree_bounds.specs.declared.groups.Group.{Group}

-- ---- of a group; `stair n` bounds what comes to spot n
abbrev pub stair_list : Option Stair → List Stair
stair_list None = []
stair_list (Some stair) = stair ∷ []

unfoldable pub stairs_among : (ℕ → Option Stair) → List ℕ → List Stair
stairs_among stair [] = []
stairs_among stair (n ∷ numbers) = stair_list (stair n) ++ stairs_among stair numbers

abbrev pub bunch_of_group : Network → List Spot → (ℕ → Option Stair) → (s q : ℕ) → Group → Bunch
bunch_of_group net spots stair s q g = record { stairs = stairs_among stair (spots_in_group spots s q g.source); pace = pace_line net g.longest g.source }

-- ---- of a queue
pub record Arriving : Type 0 where
  -- none where nothing bounds them
  pub bunches : Option (List Bunch)
  -- in bits; 0 where no link has the queue
  pub longest : ℕ

-- the stairs are known where the lines are, and these within their limits
abbrev pub arriving_of_groups : Network → List Spot → (ℕ → Option Stair) → (s q : ℕ) → List Group → Arriving
arriving_of_groups net spots stair s q groups = record {
  bunches = option_map (λ parts. map (bunch_of_group net spots stair s q) groups) (parts_in net groups);
  longest = longest_group groups;
}

abbrev pub arriving_at : Network → List Spot → (ℕ → Option Stair) → (s q : ℕ) → Arriving
arriving_at net spots stair s q =
    arriving_of_groups net spots stair s q (groups_at spots (λ n. line_of (stair n)) s q (length net.ports.items + 1))

-- at the first queues of port s
unfoldable pub arriving_below : Network → List Spot → (ℕ → Option Stair) → (s q : ℕ) → List Arriving
arriving_below net spots stair s zero = []
arriving_below net spots stair s (suc q) = arriving_below net spots stair s q ++ arriving_at net spots stair s q ∷ []

-- ---- rows
abbrev pub arriving_of : StairsIn → Arriving
arriving_of s = record { bunches = option_map bunches s.bundles; longest = s.longest }

-- a row by the stairs that arrive so
pub record IsRowOf (port : Port) (arriving : List Arriving) (q : ℕ) (found : Option Queue) : Type 0 where
  pub queues : List StairsIn
  pub are : map arriving_of queues ≡ arriving
  pub row : IsStairRow port queues q found

pub record AreRowsOf (port : Port) (arriving : List Arriving) (rows : List (Option Queue)) : Type 0 where
  pub count : length rows ≡ length arriving
  pub each : (q : ℕ) → q < length arriving → IsRowOf port arriving q (get_or rows q None)
