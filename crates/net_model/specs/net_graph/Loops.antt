-- Walks backwards, from each server to the least that it waits for, until they meet themselves. (Own choice.)
use Rattle.std.specs.Prelude.{◌≡◌, ℕ, ◌<◌, ◌≤◌, ◌+◌, List, [], ◌∷◌, ◌++◌, length, take, drop, reverse, All, Contains, Bool, true, Option, Some, None, MatchOption, slice_index, slice_index_or, nat_eq}
use Rattle.std.specs.List.{IsDistinct}
use Rattle.upp_limits.specs.Windows.{IsLeast}
use Rattle.net_model.specs.Walks.{Chain, IsBehind}
use Rattle.net_model.specs.net_graph.Waits.{list_at, IsFree}

-- a is on the list of b and has no place
pub record IsAwaited (placed : List Bool) (lists : List (List ℕ)) (b a : ℕ) : Type 0 where
  pub listed : Contains (list_at lists b) a
  pub free : IsFree placed a

-- the least of these
abbrev pub IsFirstAwaited : List Bool → List (List ℕ) → ℕ → ℕ → Type 0
IsFirstAwaited placed lists a b = IsLeast (IsAwaited placed lists b) a

-- of each server, or none where there is none
abbrev pub AreFirsts : List Bool → List (List ℕ) → List (Option ℕ) → Type 0
AreFirsts placed lists firsts = (b : ℕ) → b < length firsts
    → MatchOption (slice_index_or firsts b None) ((a : ℕ) → ¬ (IsAwaited placed lists b a)) (λ a. IsFirstAwaited placed lists a b)

-- a is the first that b waits for
abbrev pub IsFirst : List (Option ℕ) → ℕ → ℕ → Type 0
IsFirst firsts a b = slice_index_or firsts b None ≡ Some a

-- b waits for a first
abbrev pub WaitsFor : List (Option ℕ) → ℕ → ℕ → Type 0
WaitsFor firsts b a = IsFirst firsts a b

-- a server has a first that it waits for, which is within
pub record FirstIsInside (inside : ℕ → Bool) (firsts : List (Option ℕ)) (server : ℕ) : Type 0 where
  pub listed : server < length firsts
  pub first : ℕ
  pub is : IsFirst firsts first server
  pub within : inside first ≡ true

-- servers among which each waits for another one, and start is one of them
pub record IsTrap (firsts : List (Option ℕ)) (start : ℕ) : Type 0 where
  pub inside : ℕ → Bool
  pub begins : inside start ≡ true
  pub waits : (server : ℕ) → inside server ≡ true → FirstIsInside inside firsts server

-- each waits for the next, and the last for the first; none is there twice; and one comes to each from start
pub record IsLoopBack (firsts : List (Option ℕ)) (start : ℕ) (servers : List ℕ) : Type 0 where
  pub some : 0 < length servers
  pub waits : Chain (WaitsFor firsts) (servers ++ slice_index servers 0 ∷ [])
  pub once : IsDistinct nat_eq servers
  pub comes : (server : ℕ) → Contains servers server → (steps : ℕ) × IsBehind (IsFirst firsts) steps server start

-- the place of a server in a list, or none
abbrev pub FindsPlace : List ℕ → ℕ → Option ℕ → Type 0
FindsPlace servers server None = ¬ (Contains servers server)
FindsPlace servers server (Some place) = (place < length servers) × (slice_index servers place ≡ server)

-- a place with a least server
pub record IsLeastPlace (servers : List ℕ) (place : ℕ) : Type 0 where
  pub within : place < length servers
  pub least : All (λ s. slice_index servers place ≤ s) servers

-- the servers the other way round, from the least one on to the least one again
pub record IsFromLeast (servers walk : List ℕ) : Type 0 where
  pub place : ℕ
  pub least : IsLeastPlace servers place
  pub is : walk ≡ reverse (drop place servers ++ take (place + 1) servers)
