-- The stairs of spots as ports pass them on. Own choice.
use Rattle.std.specs.Prelude.{Option, None, ◌≡◌, ◌<◌, ℕ, List, length, get_or, slice_get}
use Rattle.arrival_stairs.specs.declared.stairs.Stair.{Stair}
use Rattle.arrival_lines.specs.declared.grid.Queue.{Queue}
use Rattle.tree_network.specs.declared.network.Network.{Network}
use Rattle.tree_network.specs.declared.spots.Spot.{Spot}
use Rattle.tree_network.specs.Spots.{spot_at}
use Rattle.tree_bounds.specs.Stairs.{first_stair_of, later_stair}

-- the stair of spot n
abbrev pub stair_in : List (Option Stair) → ℕ → Option Stair
stair_in stairs n = get_or stairs n None

-- where links begin, among the first n spots, they have their own stairs
pub record BeginStairs (net : Network) (spots : List Spot) (n : ℕ) (stairs : List (Option Stair)) : Type 0 where
  pub count : length stairs ≡ n
  pub begins : (k : ℕ) → k < n → (spot_at spots k).source ≡ 0 → stair_in stairs k ≡ first_stair_of (slice_get net.links.items (spot_at spots k).link)

-- the spots before those of a list are not of the list, and of a queue of the port
pub record CanBePassedOn (spots : List Spot) (numbers : List ℕ) (queues stairs : ℕ) : Type 0 where
  pub inside : (k : ℕ) → k < length numbers → get_or numbers k 0 < stairs
  pub stairs_each : stairs ≡ length spots
  pub before : (k : ℕ) → k < length numbers → (spot_at spots (get_or numbers k 0)).from < stairs
  pub queue : (k : ℕ) → k < length numbers → (spot_at spots (spot_at spots (get_or numbers k 0)).from).queue < queues
  pub apart : (k i : ℕ) → k < length numbers → i < length numbers → get_or numbers i 0 ≡ (spot_at spots (get_or numbers k 0)).from → ⊥

-- the first k of the list have the stairs that the rows make of those before; the others have theirs as before
pub record ArePassedOn (spots : List Spot) (numbers : List ℕ) (rows : List (Option Queue)) (k : ℕ) (old new : List (Option Stair)) : Type 0 where
  pub count : length new ≡ length old
  pub others : (n : ℕ) → ((i : ℕ) → i < k → get_or numbers i 0 ≡ n → ⊥) → stair_in new n ≡ stair_in old n
  pub passed : (i : ℕ) → i < k → stair_in new (get_or numbers i 0)
      ≡ later_stair (stair_in old (spot_at spots (get_or numbers i 0)).from) (get_or rows (spot_at spots (spot_at spots (get_or numbers i 0)).from).queue None)
