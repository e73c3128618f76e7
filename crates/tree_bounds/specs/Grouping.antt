-- Spots of a queue grouped one after the other, those of one source that follow each other together. Own choice.
use Rattle.std.specs.Prelude.{Option, ◌≡◌, ◌+◌, ◌<◌, ◌^◌, ◌==◌, ◌&&◌, ℕ, max, All, List, [], ◌∷◌, length, fold, is_some, if◌then◌else◌}
use Rattle.std.specs.List.{flat_map}
use Rattle.arrival_lines.specs.declared.grid.Line.{Line}
use Rattle.tree_network.specs.declared.spots.Spot.{Spot}
use Rattle.tree_network.specs.Spots.{spot_at}
use Rattle.tree_bounds.specs.Groups.{burst_in, rate_in, spots_in_group}
use Rattle.tree_bounds.specs.declared.groups.Group.{Group}

abbrev pub group_of_spot : Spot → Option Line → Group
group_of_spot spot line = record { source = spot.source; burst = burst_in line; rate = rate_in line; longest = spot.frame; known = is_some line; count = 1 }

abbrev pub both_groups : Group → Group → Group
both_groups one other = record {
  source = one.source;
  burst = one.burst + other.burst;
  rate = one.rate + other.rate;
  longest = max one.longest other.longest;
  known = one.known && other.known;
  count = one.count + other.count;
}

-- the sums fit their types
pub record FitTogether (one other : Group) : Type 0 where
  pub burst : one.burst + other.burst < 2 ^ 128
  pub rate : one.rate + other.rate < 2 ^ 128
  pub count : one.count + other.count < 2 ^ 64

-- of one link, whose line has 64 bits
pub record IsOfOne (g : Group) : Type 0 where
  pub burst : g.burst < 2 ^ 64
  pub rate : g.rate < 2 ^ 64
  pub count : g.count ≡ 1

-- a group more: behind the others, or with the last of them
abbrev pub last_with : Group → Group → List Group
last_with last next = if last.source == next.source then both_groups last next ∷ [] else last ∷ next ∷ []

unfoldable pub with_group : List Group → Group → List Group
with_group [] next = next ∷ []
with_group (g ∷ []) next = last_with g next
with_group (g ∷ (h ∷ groups)) next = g ∷ with_group (h ∷ groups) next

-- a spot more
abbrev pub with_spot : List Spot → (ℕ → Option Line) → List Group → ℕ → List Group
with_spot spots line groups n = with_group groups (group_of_spot (spot_at spots n) (line n))

abbrev pub grouped : List Spot → (ℕ → Option Line) → List ℕ → List Group
grouped spots line numbers = fold (with_spot spots line) [] numbers

-- ---- where each group stands
-- the spots are those of the groups at queue q of port s, one group after the other
pub record AreInGroups (spots : List Spot) (s q : ℕ) (groups : List Group) (numbers : List ℕ) : Type 0 where
  pub are : numbers ≡ flat_map (λ g. spots_in_group spots s q g.source) groups
  pub counts : All (λ g. g.count ≡ length (spots_in_group spots s q g.source)) groups
