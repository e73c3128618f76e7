-- The tree over which a link goes, by the paths of its rows: the ports that they pass, each with the port before it.
use Rattle.std.specs.Prelude.{◌≡◌, ℕ, ◌<◌, ◌≤◌, nat_eq, take, Bool, List, [], ◌∷◌, ◌++◌, map, position, Option, Some, None, if◌then◌else◌}
use Rattle.std.specs.BTreeMap.{BTreeMap, get}
use Rattle.std.specs.List.{list_any}
use Rattle.std.specs.Ordering.{nat_cmp}

-- a port of a tree, and the one after which it comes; none where the paths begin
abbrev pub Stop : Type 0
Stop = ℕ × Option ℕ

-- so many stops are found by looking at them all
abbrev pub few : ℕ
few = 16

-- a port that has none of the first few has the place of its stop, and none where it has no stop
abbrev pub ArePlacesOf : BTreeMap ℕ ℕ → List Stop → Type 0
ArePlacesOf places stops = (port : ℕ) → position (nat_eq port) (map (λ s. s.0) (take few stops)) ≡ None
    → get nat_cmp places port ≡ position (nat_eq port) (map (λ s. s.0) stops)

-- a place is noted, where it is past the first few
pub record IsNoted (old new : BTreeMap ℕ ℕ) (port place : ℕ) : Type 0 where
  pub before : place < few → (q : ℕ) → get nat_cmp new q ≡ get nat_cmp old q
  pub past : few ≤ place → (q : ℕ) → get nat_cmp new q ≡ (if nat_eq port q then Some place else get nat_cmp old q)

abbrev pub has_stop : List Stop → ℕ → Bool
has_stop stops port = list_any (nat_eq port) (map (λ s. s.0) stops)

-- it is the stop of this port
abbrev pub is_at : (port : ℕ) → Stop → Bool
is_at port stop = nat_eq port stop.0

-- a port that is passed right after this one: it comes behind the others where it is new
abbrev pub with_stop : List Stop → (port : ℕ) → (after : Option ℕ) → List Stop
with_stop stops port after = if has_stop stops port then stops else stops ++ (port, after) ∷ []

-- what is left of a path, behind a port or behind none
unfoldable pub with_path : List Stop → (behind : Option ℕ) → List ℕ → List Stop
with_path stops behind [] = stops
with_path stops behind (port ∷ path) = with_path (with_stop stops port behind) (Some port) path

unfoldable pub with_paths : List Stop → List (List ℕ) → List Stop
with_paths stops [] = stops
with_paths stops (path ∷ paths) = with_paths (with_path stops None path) paths

-- in the order in which the paths first pass them
abbrev pub stops_of : List (List ℕ) → List Stop
stops_of paths = with_paths [] paths
