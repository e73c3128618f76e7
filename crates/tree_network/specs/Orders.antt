-- An order of the ports in which no link goes back, and rings of ports, of which a network has one exactly where it has no such order.
-- (Kahn: topological sorting.)
use Rattle.std.specs.Prelude.{◌≡◌, ◌<◌, ◌≤◌, ◌+◌, ◌-◌, ℕ, suc, List, length, get_or}
use Rattle.tree_network.specs.declared.network.Network.{Network}
use Rattle.tree_network.specs.declared.spots.Spot.{Spot}
use Rattle.tree_network.specs.Spots.{spot_at, spots_of}

-- some link goes from port a to port b
pub record GoesTo (spots : List Spot) (a b : ℕ) : Type 0 where
  pub spot : ℕ
  pub inside : spot < length spots
  pub from : (spot_at spots spot).source ≡ suc a
  pub to : (spot_at spots spot).port ≡ b

-- port s stands at place i
pub record StandsAt (order : List ℕ) (s i : ℕ) : Type 0 where
  pub inside : i < length order
  pub is : get_or order i 0 ≡ s

-- each of so many ports stands once, after those from which links come to it
pub record IsOrderOf (spots : List Spot) (ports : ℕ) (order : List ℕ) : Type 0 where
  pub count : length order ≡ ports
  pub small : (i : ℕ) → i < ports → get_or order i 0 < ports
  pub every : (s : ℕ) → s < ports → (i : ℕ) × StandsAt order s i
  pub once : (i j : ℕ) → i < ports → j < ports → get_or order i 0 ≡ get_or order j 0 → i ≡ j
  pub forward : (i j : ℕ) → i < ports → j < ports → GoesTo spots (get_or order i 0) (get_or order j 0) → i < j

-- a walk from port to port along links, back to the first of them
pub record IsRing (spots : List Spot) (ports : List ℕ) : Type 0 where
  pub some : 2 ≤ length ports
  pub back : get_or ports (length ports - 1) 0 ≡ get_or ports 0 0
  pub steps : (i : ℕ) → i + 1 < length ports → GoesTo spots (get_or ports i 0) (get_or ports (i + 1) 0)

abbrev pub IsNetworkOrder : Network → List ℕ → Type 0
IsNetworkOrder net order = IsOrderOf (spots_of net) (length net.ports.items) order

abbrev pub IsNetworkRing : Network → List ℕ → Type 0
IsNetworkRing net ports = IsRing (spots_of net) ports

-- there is never both
abbrev pub OrderOrRing : Type 0
OrderOrRing = (spots : List Spot) (ports : ℕ) (order ring : List ℕ) → IsOrderOf spots ports order
    → ((n : ℕ) → n < length spots → ((spot_at spots n).port < ports)) → IsRing spots ring → ⊥
