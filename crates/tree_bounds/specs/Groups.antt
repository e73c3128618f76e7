-- What arrives at a queue: the links that begin there are one part, and those that come from one port another, cut by that port's pace.
-- (Grouping of flows by their input link.)
use Rattle.std.specs.Prelude.{Option, Some, None, ◌+◌, ◌*◌, ◌^◌, ◌==◌, ◌&&◌, ℕ, zero, suc, max, Bool, List, [], ◌∷◌, ◌++◌, length, map, is_some, nat_lt, if◌then◌else◌}
use Rattle.std.specs.List.{sum_by, list_all}
use Rattle.arrival_lines.specs.declared.grid.Line.{Line}
use Rattle.arrival_lines.specs.declared.grid.Part.{Part}
use Rattle.tree_network.specs.Networks.{port_at}
use Rattle.tree_network.specs.declared.network.Network.{Network}
use Rattle.tree_network.specs.declared.spots.Spot.{Spot}
use Rattle.tree_network.specs.Spots.{spot_at}
use Rattle.tree_network.specs.Lists.{those, is_between}
use Rattle.port_bounds.specs.Incoming.{Incoming}
use Rattle.tree_bounds.specs.declared.groups.Group.{Group}

abbrev pub burst_in : Option Line → ℕ
burst_in None = 0
burst_in (Some line) = line.burst

abbrev pub rate_in : Option Line → ℕ
rate_in None = 0
rate_in (Some line) = line.rate

-- ---- groups; `line n` bounds what comes to spot n
unfoldable pub longest_of : List Spot → List ℕ → ℕ
longest_of spots [] = 0
longest_of spots (n ∷ numbers) = max (spot_at spots n).frame (longest_of spots numbers)

-- the spots of a list, to which frames come from source k
abbrev pub group_of : List Spot → (ℕ → Option Line) → ℕ → List ℕ → Group
group_of spots line k numbers = record {
  source = k;
  burst = sum_by (λ n. burst_in (line n)) numbers;
  rate = sum_by (λ n. rate_in (line n)) numbers;
  longest = longest_of spots numbers;
  known = list_all (λ n. is_some (line n)) numbers;
  count = length numbers;
}

-- spot n is of queue q at port s, and frames come to it from source k
abbrev pub is_in_group : List Spot → (s q k n : ℕ) → Bool
is_in_group spots s q k n = is_between spots k s n && ((spot_at spots n).queue == q)

abbrev pub spots_in_group : List Spot → (s q k : ℕ) → List ℕ
spots_in_group spots s q k = those (is_in_group spots s q k) (length spots)

-- none where there is no spot
abbrev pub group_list : List Spot → (ℕ → Option Line) → ℕ → List ℕ → List Group
group_list spots line k [] = []
group_list spots line k (n ∷ numbers) = group_of spots line k (n ∷ numbers) ∷ []

-- those of the first sources, in their order
unfoldable pub groups_at : List Spot → (ℕ → Option Line) → (s q k : ℕ) → List Group
groups_at spots line s q zero = []
groups_at spots line s q (suc k) = groups_at spots line s q k ++ group_list spots line k (spots_in_group spots s q k)

-- ---- parts
-- the pace of the port from which frames come
abbrev pub pace_line : Network → (longest source : ℕ) → Option Line
pace_line net longest zero = None
pace_line net longest (suc p) = Some record { burst = longest * 1024; rate = (port_at net p).pace }

abbrev pub part_of : Network → Group → Part
part_of net g = record { sum = record { burst = g.burst; rate = g.rate }; pace = pace_line net g.longest g.source }

-- of the links together
abbrev pub sum_burst : Part → ℕ
sum_burst part = part.sum.burst

abbrev pub sum_rate : Part → ℕ
sum_rate part = part.sum.rate

-- the links' bursts together are below 2 ^ 58 grains, and their rates below 2 ^ 50 grains a second: no port is as fast
abbrev pub are_bounded : List Part → Bool
are_bounded parts = nat_lt (sum_by sum_burst parts) (2 ^ 58) && nat_lt (sum_by sum_rate parts) (2 ^ 50)

-- none where a link has no line
abbrev pub parts_in : Network → List Group → Option (List Part)
parts_in net groups = if list_all (λ g. g.known) groups && are_bounded (map (part_of net) groups) then Some (map (part_of net) groups) else None

unfoldable pub longest_group : List Group → ℕ
longest_group [] = 0
longest_group (g ∷ groups) = max g.longest (longest_group groups)

-- ---- queues
abbrev pub incoming_of_groups : Network → List Group → Incoming
incoming_of_groups net groups = record { parts = parts_in net groups; longest = longest_group groups }

abbrev pub incoming_at : Network → List Spot → (ℕ → Option Line) → (s q : ℕ) → Incoming
incoming_at net spots line s q = incoming_of_groups net (groups_at spots line s q (length net.ports.items + 1))

-- at the first queues of port s
unfoldable pub incomings_at : Network → List Spot → (ℕ → Option Line) → (s q : ℕ) → List Incoming
incomings_at net spots line s zero = []
incomings_at net spots line s (suc q) = incomings_at net spots line s q ++ incoming_at net spots line s q ∷ []
