-- Which servers a server waits for, as lists, one for each server. (Own choice.)
use Rattle.std.specs.Prelude.{◌≡◌, ℕ, ◌<◌, ◌-◌, ◌⊎◌, List, [], length, map, Contains, Bool, true, false, Option, Some, slice_get, slice_index_or, MatchBool}
use Rattle.std.specs.declared.vec.Vec.{Vec}
use Rattle.net_model.specs.Networks.{NetFlow}
use Rattle.net_model.specs.Walks.{IsStep, IsNextOn}

abbrev pub lists_of : {X Z : Type 0} → List (Vec X Z) → List (List X)
lists_of = map (λ v. v.items)

-- the list of a server
abbrev pub list_at : List (List ℕ) → ℕ → List ℕ
list_at lists server = slice_index_or lists server []

-- every list names servers below n
abbrev pub AreBelow : ℕ → List (List ℕ) → Type 0
AreBelow n lists = (server other : ℕ) → Contains (list_at lists server) other → other < n

-- the new lists have what the old ones have, and the steps among the first places of a path: at each server those
-- before it
pub record AddsSteps (old new : List (List ℕ)) (path : List ℕ) : Type 0 where
  pub count : length new ≡ length old
  pub only : (a b : ℕ) → Contains (list_at new b) a → Contains (list_at old b) a ⊎ IsStep path a b
  pub keeps : (a b : ℕ) → Contains (list_at old b) a → Contains (list_at new b) a
  pub adds : (a b : ℕ) → IsStep path a b → Contains (list_at new b) a

-- ---- who is placed
abbrev pub IsPlaced : List Bool → ℕ → Type 0
IsPlaced placed server = slice_index_or placed server false ≡ true

abbrev pub IsFree : List Bool → ℕ → Type 0
IsFree placed server = slice_index_or placed server true ≡ false

-- the last of a list is a free server
pub record EndsFree (placed : List Bool) (list : List ℕ) : Type 0 where
  pub last : ℕ
  pub is : slice_get list (length list - 1) ≡ Some last
  pub free : IsFree placed last

-- nothing but placed servers has left the list
pub record LosesPlaced (placed : List Bool) (old new : List ℕ) : Type 0 where
  pub only : (a : ℕ) → Contains new a → Contains old a
  pub lost : (a : ℕ) → Contains old a → Contains new a ⊎ IsPlaced placed a

pub record AllLosePlaced (placed : List Bool) (old new : List (List ℕ)) : Type 0 where
  pub count : length new ≡ length old
  pub each : (server : ℕ) → LosesPlaced placed (list_at old server) (list_at new server)

-- a list with a free server at its end, or none at all
abbrev pub IsWaiting : List Bool → List ℕ → Bool → Type 0
IsWaiting placed list waits = MatchBool waits (EndsFree placed list) (list ≡ [])

-- a server below n is placed or waits for a free one
abbrev pub AreBusy : List Bool → List (List ℕ) → ℕ → Type 0
AreBusy placed lists n = (server : ℕ) → server < n → IsFree placed server → EndsFree placed (list_at lists server)

-- the first free server with an empty list
pub record IsFirstIdle (placed : List Bool) (lists : List (List ℕ)) (server : ℕ) : Type 0 where
  pub within : server < length lists
  pub free : IsFree placed server
  pub idle : list_at lists server ≡ []
  pub first : AreBusy placed lists server

-- ---- all of it
-- so many lists, which have for each server those that some of the flows pass right before it
pub record AreBefore (flows : List (Option NetFlow)) (n : ℕ) (lists : List (List ℕ)) : Type 0 where
  pub count : length lists ≡ n
  pub only : (a b : ℕ) → Contains (list_at lists b) a → IsNextOn flows a b
  pub all : (a b : ℕ) → IsNextOn flows a b → Contains (list_at lists b) a
