-- The parts of a queue: the hops with which paths begin there, and for each server before, the hops that come from it.
-- (Grouping of flows by their input link; own choice of the order.)
use Rattle.std.specs.Prelude.{ℕ, zero, suc, ◌+◌, ◌-◌, List, [], ◌∷◌, length, map, Bool, ◌==◌, ◌&&◌, if◌then◌else◌}
use Rattle.std.specs.List.{filter, flat_map, range_with_len}
use Rattle.net_model.specs.Networks.{Net}
use Rattle.net_cells.specs.Numbered.{hops, server_of_hop, queue_of_hop}
use Rattle.net_cells.specs.Visits.{Visit, visit, visits_in}

-- part 0 is of those whose path begins there, part p + 1 of those that come from server p
abbrev pub part_of : Net → Visit → ℕ
part_of net v = if v.hop == 0 then 0 else suc (server_of_hop net v.flow (v.hop - 1))

abbrev pub in_part : Net → (s q k : ℕ) → List Visit
in_part net s q k = filter (λ v. part_of net v == k) (visits_in net s q)

-- hop v is at queue q of server s and in part k; those of a flow that are
abbrev pub is_there : Net → (s q k : ℕ) → Visit → Bool
is_there net s q k v =
    (server_of_hop net v.flow v.hop == s) && ((queue_of_hop net v.flow v.hop == q) && (part_of net v == k))

abbrev pub flow_part : Net → (s q k i : ℕ) → List Visit
flow_part net s q k i = filter (is_there net s q k) (map (visit i) (range_with_len 0 (hops net i)))

-- the numbers of all parts that a queue may have
abbrev pub part_numbers : Net → List ℕ
part_numbers net = range_with_len 0 (suc (length net.servers))

-- the hops of a queue, part by part
abbrev pub by_parts : Net → (s q : ℕ) → List ℕ → List Visit
by_parts net s q ks = flat_map (in_part net s q) ks

-- how many of the parts come over a link
abbrev pub link_of : (part hops : ℕ) → ℕ
link_of zero n = 0
link_of (suc p) zero = 0
link_of (suc p) (suc n) = 1

abbrev pub link_part : ℕ → List Visit → ℕ
link_part k vs = link_of k (length vs)

abbrev pub links_among : Net → (s q : ℕ) → List ℕ → ℕ
links_among net s q [] = 0
links_among net s q (k ∷ ks) = link_part k (in_part net s q k) + links_among net s q ks
