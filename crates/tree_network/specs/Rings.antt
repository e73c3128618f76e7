-- The ring of ports that is told where there is no order. A network may have several; this one its links determine. Own choice.
use Rattle.std.specs.Prelude.{◌≡◌, ◌<◌, ◌≤◌, ◌+◌, ◌-◌, ◌++◌, ℕ, zero, suc, List, [], ◌∷◌, length, get_or, drop, reverse}
use Rattle.tree_network.specs.declared.network.Network.{Network}
use Rattle.tree_network.specs.declared.spots.Spot.{Spot}
use Rattle.tree_network.specs.Spots.{spots_of}
use Rattle.tree_network.specs.Orders.{GoesTo, IsRing}

-- ---- ports on a ring, or behind one
-- b is so many links after a
abbrev pub IsBehind : List Spot → ℕ → ℕ → ℕ → Type 0
IsBehind spots zero a b = a ≡ b
IsBehind spots (suc links) a b = (c : ℕ) × GoesTo spots c b × IsBehind spots links a c

-- walks of any number of links end at the port
abbrev pub IsEndless : List Spot → ℕ → Type 0
IsEndless spots b = (links : ℕ) → (a : ℕ) × IsBehind spots links a b

-- ---- back along links
-- a is the least such port from which a link goes to b
pub record IsFirstBefore (spots : List Spot) (a b : ℕ) : Type 0 where
  pub goes : GoesTo spots a b
  pub endless : IsEndless spots a
  pub least : (s : ℕ) → GoesTo spots s b → IsEndless spots s → a ≤ s

-- a walk from a port, each time back to the first port before, which passes none twice and comes back to that at `place`
pub record IsWalkBack (spots : List Spot) (start : ℕ) (walk : List ℕ) (place : ℕ) : Type 0 where
  pub begins : get_or walk 0 0 ≡ start
  pub steps : (i : ℕ) → i + 1 < length walk → IsFirstBefore spots (get_or walk (i + 1) 0) (get_or walk i 0)
  pub once : (i j : ℕ) → i < j → j < length walk → get_or walk i 0 ≡ get_or walk j 0 → ⊥
  pub inside : place < length walk
  pub back : IsFirstBefore spots (get_or walk place 0) (get_or walk (length walk - 1) 0)

-- ---- the ring that is told
-- ports of a walk back, in the order in which links lead, from the first of them to it again
abbrev pub turned_round : List ℕ → List ℕ
turned_round ports = reverse (ports ++ get_or ports 0 0 ∷ [])

-- From the least port at which walks of any number of links end, back each time to the least such port right before, until
-- one comes again: the ports from that one on, in the order in which links lead.
pub record IsToldRing (spots : List Spot) (ring : List ℕ) : Type 0 where
  pub start : ℕ
  pub endless : IsEndless spots start
  pub least : (s : ℕ) → IsEndless spots s → start ≤ s
  pub walk : List ℕ
  pub place : ℕ
  pub goes : IsWalkBack spots start walk place
  pub is : ring ≡ turned_round (drop place walk)

abbrev pub IsNetworkToldRing : Network → List ℕ → Type 0
IsNetworkToldRing net ring = IsToldRing (spots_of net) ring

-- there is one at most
abbrev pub OneRing : Type 0
OneRing = (spots : List Spot) (one other : List ℕ) → IsToldRing spots one → IsToldRing spots other → one ≡ other

-- and it is a ring
abbrev pub ToldRingsAreRings : Type 0
ToldRingsAreRings = (spots : List Spot) (ring : List ℕ) → IsToldRing spots ring → IsRing spots ring
