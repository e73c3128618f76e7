-- Turn by turn to an order: how many spots of each port still wait for the port before, and which ports wait for none. Own choice.
use Rattle.std.specs.Prelude.{Option, Some, None, ◌≡◌, ◌<◌, ◌≤◌, ◌==◌, ◌&&◌, ℕ, zero, suc, Bool, true, false, not, List, length, get_or, drop, count_by}
use Rattle.tree_network.specs.declared.spots.Spot.{Spot}
use Rattle.tree_network.specs.Spots.{spot_at}
use Rattle.tree_network.specs.Lists.{those}
use Rattle.tree_network.specs.Orders.{StandsAt, GoesTo}
use Rattle.tree_network.specs.Rings.{IsEndless, IsWalkBack}

-- frames come from a port that is not done
abbrev pub is_late : List Bool → ℕ → Bool
is_late done zero = false
is_late done (suc a) = not (get_or done a false)

-- the spot is at port s and waits
abbrev pub waits_at : List Spot → List Bool → (s n : ℕ) → Bool
waits_at spots done s n = ((spot_at spots n).port == s) && is_late done (spot_at spots n).source

abbrev pub count_waiting : List Spot → List Bool → ℕ → ℕ
count_waiting spots done s = length (those (waits_at spots done s) (length spots))

-- the ready ports are those that wait for nothing, each once
pub record AreReady (waiting ready : List ℕ) : Type 0 where
  pub small : (i : ℕ) → i < length ready → get_or ready i 0 < length waiting
  pub idle : (i : ℕ) → i < length ready → get_or waiting (get_or ready i 0) 0 ≡ 0
  pub once : (i j : ℕ) → i < j → j < length ready → get_or ready i 0 ≡ get_or ready j 0 → ⊥
  pub all : (s : ℕ) → s < length waiting → get_or waiting s 0 ≡ 0 → (i : ℕ) × StandsAt ready s i

-- the numbers in a list that are at port s, by the port of each
abbrev pub count_of : (ℕ → ℕ) → ℕ → List ℕ → ℕ
count_of port s list = count_by (λ n. port n == s) list

-- the numbers of spots in a list that are at port s
abbrev pub count_at : List Spot → ℕ → List ℕ → ℕ
count_at spots s list = count_of (λ n. (spot_at spots n).port) s list

-- one list begins with the other
pub record Begins (old new : List ℕ) : Type 0 where
  pub longer : length old ≤ length new
  pub same : (i : ℕ) → i < length old → get_or new i 0 ≡ get_or old i 0

-- ---- ports that are not done
abbrev pub IsFree : List Bool → ℕ → Type 0
IsFree done s = get_or done s true ≡ false

-- a link goes to port s from a port that is not done either
pub record IsStuck (spots : List Spot) (done : List Bool) (s : ℕ) : Type 0 where
  pub before : ℕ
  pub goes : GoesTo spots before s
  pub free : IsFree done before

abbrev pub AreStuck : List Spot → List Bool → Type 0
AreStuck spots done = (s : ℕ) → IsFree done s → IsStuck spots done s

-- none is done at which walks of any number of links end
abbrev pub AreEndless : List Spot → List Bool → Type 0
AreEndless spots done = (s : ℕ) → IsEndless spots s → IsFree done s

pub record IsFirstFree (done : List Bool) (s : ℕ) : Type 0 where
  pub free : IsFree done s
  pub least : (t : ℕ) → IsFree done t → s ≤ t

-- frames of a source come from port a, which is not done
pub record ComesLate (done : List Bool) (source a : ℕ) : Type 0 where
  pub from : source ≡ suc a
  pub free : IsFree done a

abbrev pub NoneComesLate : List Bool → ℕ → Type 0
NoneComesLate done source = (a : ℕ) → ComesLate done source a → ⊥

-- frames come to a spot of the list from port a, which is not done
pub record IsLateFrom (spots : List Spot) (done : List Bool) (numbers : List ℕ) (a : ℕ) : Type 0 where
  pub place : ℕ
  pub inside : place < length numbers
  pub from : (spot_at spots (get_or numbers place 0)).source ≡ suc a
  pub free : IsFree done a

-- and from no lesser one
pub record IsFirstLateFrom (spots : List Spot) (done : List Bool) (numbers : List ℕ) (a : ℕ) : Type 0 where
  pub late : IsLateFrom spots done numbers a
  pub least : (b : ℕ) → IsLateFrom spots done numbers b → a ≤ b

-- the spots of the list stand in the order of their sources
abbrev pub RiseBySource : List Spot → List ℕ → Type 0
RiseBySource spots numbers =
    (i j : ℕ) → i < j → j < length numbers
    → (spot_at spots (get_or numbers i 0)).source ≤ (spot_at spots (get_or numbers j 0)).source

-- the place of a number in a list, or none
abbrev pub FindsPlace : List ℕ → ℕ → Option ℕ → Type 0
FindsPlace ports port None = (i : ℕ) → i < length ports → get_or ports i 0 ≡ port → ⊥
FindsPlace ports port (Some place) = StandsAt ports port place

-- by port, where each of a list stands in it
pub record AreNoted (ports places : List ℕ) : Type 0 where
  pub each : (i : ℕ) → i < length ports → get_or places (get_or ports i 0) 0 ≡ i

-- the ports of a walk back from the one that comes again on
pub record IsLoopFrom (spots : List Spot) (start : ℕ) (ports : List ℕ) : Type 0 where
  pub some : 0 < length ports
  pub walk : List ℕ
  pub place : ℕ
  pub goes : IsWalkBack spots start walk place
  pub is : ports ≡ drop place walk
