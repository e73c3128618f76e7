-- Which flows pass a server, and in which of its queues. (Own choice.)
use Rattle.std.specs.Prelude.{ℕ, ◌+◌, List, [], ◌∷◌, length, map, max, Bool, not, ◌==◌, ◌&&◌, nat_lt, slice_index}
use Rattle.std.specs.List.{filter, flat_map, range_with_len}
use Rattle.net_model.specs.Networks.{Net}
pub use Rattle.net_cells.specs.declared.visit.Visit.{Visit}
use Rattle.net_cells.specs.Numbered.{hops, packet, server_of_hop, queue_of_hop}

abbrev pub visit : ℕ → ℕ → Visit
visit i k = record { flow = i; hop = k }

-- ---- by flow, and then by hop
-- all hops
abbrev pub all_visits : Net → List Visit
all_visits net = flat_map (λ i. map (visit i) (range_with_len 0 (hops net i))) (range_with_len 0 (length net.flows))

-- those of one path that are at a server
abbrev pub hops_at : ℕ → List ℕ → ℕ → List Visit
hops_at i way s = filter (λ v. slice_index way v.hop == s) (map (visit i) (range_with_len 0 (length way)))

-- those of all flows that are
abbrev pub is_at : Net → ℕ → Visit → Bool
is_at net s v = server_of_hop net v.flow v.hop == s

abbrev pub visits : Net → ℕ → List Visit
visits net s = filter (is_at net s) (all_visits net)

-- those in one of its queues
abbrev pub visits_in : Net → ℕ → ℕ → List Visit
visits_in net s q = filter (λ v. queue_of_hop net v.flow v.hop == q) (visits net s)

-- and there those of one path with its queues
abbrev pub hops_in : ℕ → (way lanes : List ℕ) → (s q : ℕ) → List Visit
hops_in i way lanes s q =
    filter (λ v. (slice_index way v.hop == s) && (slice_index lanes v.hop == q))
    (map (visit i) (range_with_len 0 (length way)))

-- and there of the other flows
abbrev pub others : Net → ℕ → ℕ → ℕ → List Visit
others net i s q = filter (λ v. not (v.flow == i)) (visits_in net s q)

-- those in its queues of greater number
abbrev pub visits_after : Net → ℕ → ℕ → List Visit
visits_after net s q = filter (λ v. nat_lt q (queue_of_hop net v.flow v.hop)) (visits net s)

-- another hop comes after it
abbrev pub goes_on : Net → Visit → Bool
goes_on net v = nat_lt (v.hop + 1) (hops net v.flow)

abbrev pub going_on : Net → List Visit → List Visit
going_on net = filter (goes_on net)

-- ---- longest packets, in bits; 0 of no flow
abbrev pub longest_of : Net → List Visit → ℕ
longest_of net [] = 0
longest_of net (v ∷ vs) = max (packet net v.flow) (longest_of net vs)

-- of a queue
abbrev pub longest : Net → ℕ → ℕ → ℕ
longest net s q = longest_of net (visits_in net s q)

-- of the queues of greater number
abbrev pub longest_after : Net → ℕ → ℕ → ℕ
longest_after net s q = longest_of net (visits_after net s q)
