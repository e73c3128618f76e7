-- Lists of spots by their numbers. Own choice.
use Rattle.std.specs.Prelude.{◌≡◌, ◌<◌, ℕ, zero, suc, ◌==◌, ◌&&◌, Bool, List, [], ◌∷◌, ◌++◌, length, map, get_or, if◌then◌else◌}
use Rattle.std.specs.declared.vec.Vec.{Vec}
use Rattle.tree_network.specs.declared.spots.Spot.{Spot}
use Rattle.tree_network.specs.Spots.{spot_at}

abbrev pub lists_of : {X Z : Type 0} → List (Vec X Z) → List (List X)
lists_of = map (λ v. v.items)

abbrev pub list_at : List (List ℕ) → ℕ → List ℕ
list_at lists k = get_or lists k []

-- the ports of the spots alone
abbrev pub ports_in : List Spot → List ℕ
ports_in = map (λ (spot : Spot). spot.port)

abbrev pub number_at : List ℕ → ℕ → ℕ
number_at numbers n = get_or numbers n 0

-- the numbers below n that pass a test
unfoldable pub those : (ℕ → Bool) → ℕ → List ℕ
those test zero = []
those test (suc n) = those test n ++ (if test n then n ∷ [] else [])

-- frames come to the spot from source k
abbrev pub is_from : List Spot → ℕ → ℕ → Bool
is_from spots k n = (spot_at spots n).source == k

-- and it is at port s
abbrev pub is_between : List Spot → (k s n : ℕ) → Bool
is_between spots k s n = ((spot_at spots n).source == k) && ((spot_at spots n).port == s)

-- the spots at port s to which frames come from one of the first sources, in the order of the sources
unfoldable pub spots_at_port : List Spot → (s k : ℕ) → List ℕ
spots_at_port spots s zero = []
spots_at_port spots s (suc k) = spots_at_port spots s k ++ those (is_between spots k s) (length spots)

-- one list for each of the sources
pub record AreBySource (spots : List Spot) (sources : ℕ) (lists : List (List ℕ)) : Type 0 where
  pub count : length lists ≡ sources
  pub each : (k : ℕ) → k < sources → list_at lists k ≡ those (is_from spots k) (length spots)

-- one list for each of the ports
pub record AreByPort (spots : List Spot) (ports sources : ℕ) (lists : List (List ℕ)) : Type 0 where
  pub count : length lists ≡ ports
  pub each : (s : ℕ) → s < ports → list_at lists s ≡ spots_at_port spots s sources
