-- The hops at a server, flow by flow. Own choice.
use Rattle.std.specs.Prelude.{◌≡◌, ◌≢◌, ◌<◌, ℕ, ◌==◌, ◌&&◌, List, [], ◌∷◌, length, map, Bool, true, not, nat_lt, Option, Some, None, slice_index}
use Rattle.std.specs.List.{filter, flat_map, range_with_len}
use Rattle.net_model.specs.Networks.{Net}
use Rattle.net_cells.specs.Numbered.{hops, queue_of_hop}
use Rattle.net_cells.specs.declared.visit.Visit.{Visit}
use Rattle.net_cells.specs.Visits.{visit, is_at}
use Rattle.net_cells.specs.QueueParts.{part_of}
use Rattle.cell_numbers.specs.declared.found.Pick.{Pick}
use Rattle.cell_numbers.specs.declared.found.Pick.TheVariants.{InQueue, AfterQueue, InPart}

-- those of a flow
abbrev pub flow_visits : Net → ℕ → ℕ → List Visit
flow_visits net s i = filter (is_at net s) (map (visit i) (range_with_len 0 (hops net i)))

-- a hop of a flow, if there is one
abbrev pub visit_list : ℕ → Option ℕ → List Visit
visit_list i None = []
visit_list i (Some k) = visit i k ∷ []

-- a server is at none of the first places of a path
abbrev pub IsFreeBefore : List ℕ → (s n : ℕ) → Type 0
IsFreeBefore way s n = (j : ℕ) → j < n → slice_index way j ≢ s

-- it is at this place of the path, and at none before
pub record IsFirstOn (way : List ℕ) (s k : ℕ) : Type 0 where
  pub inside : k < length way
  pub here : slice_index way k ≡ s
  pub before : IsFreeBefore way s k

-- where it is found, if it is there
abbrev pub FindsOn : List ℕ → ℕ → Option ℕ → Type 0
FindsOn way s None = IsFreeBefore way s (length way)
FindsOn way s (Some k) = IsFirstOn way s k

-- in one queue, in the queues of greater number, or in one part of a queue
abbrev pub picks : Net → Pick → Visit → Bool
picks net (InQueue q) v = queue_of_hop net v.flow v.hop == q
picks net (AfterQueue q) v = nat_lt q (queue_of_hop net v.flow v.hop)
picks net (InPart q k) v = (queue_of_hop net v.flow v.hop == q) && (part_of net v == k)

-- of another flow than this one, if there is one
abbrev pub is_other : Option ℕ → Visit → Bool
is_other None v = true
is_other (Some i) v = not (v.flow == i)

-- those of a flow that are so
abbrev pub picked : Net → ℕ → Pick → ℕ → List Visit
picked net s pick i = filter (picks net pick) (flow_visits net s i)

abbrev pub chosen : Net → ℕ → Pick → Option ℕ → ℕ → List Visit
chosen net s pick except i = filter (is_other except) (picked net s pick i)

-- those of the first n flows
abbrev pub all_picked : Net → ℕ → Pick → ℕ → List Visit
all_picked net s pick n = flat_map (picked net s pick) (range_with_len 0 n)

abbrev pub all_chosen : Net → ℕ → Pick → Option ℕ → ℕ → List Visit
all_chosen net s pick except n = flat_map (chosen net s pick except) (range_with_len 0 n)
