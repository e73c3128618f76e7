-- What arrives at a port's queues is in range.
use Rattle.std.proofs.Common.{◌≡◌, ℕ, zero, suc, ◌<◌, ◌≤◌, ◌+◌, ◌-◌, ◌*◌, ◌^◌, ◌&&◌, Bool, true, false, Option, Some, None, List, [], ◌∷◌, ◌++◌, length, get_or, map, nat_lt, refl, ◌∙◌, ap, arith, add-one, length-append}
use Rattle.std.specs.Prelude.{All}
use Rattle.std.specs.List.{sum_by, list_all}
use Rattle.std.proofs.lemmas.Bool.Decides.{nat_tests}
use Rattle.std.proofs.lemmas.List.Elements.{All-append}
use Rattle.std.proofs.lemmas.List.Sums.{sum_by-append, sum_by-cons}
use Rattle.arrival_lines.specs.Steps.{burst_with, rate_with, most_burst, most_rate}
use Rattle.arrival_lines.specs.declared.grid.Line.{Line}
use Rattle.arrival_lines.specs.declared.grid.Part.{Part}
use Rattle.tree_network.specs.Networks.{longest_frame, fastest, no_port, IsNetwork}
use Rattle.tree_network.specs.declared.network.Network.{Network}
use Rattle.tree_network.specs.declared.spots.Spot.{Spot}
use Rattle.tree_network.specs.Spots.{spot_at, spots_of, AreSpots}
use Rattle.tree_network.proofs.InRange.{in_range as spots_in_range}
use Rattle.tree_network.proofs.Those.{those_pass}
use Rattle.port_bounds.specs.Incoming.{Incoming}
use Rattle.port_bounds.specs.Ranges.{AreInRange, sum_of}
use Rattle.tree_bounds.specs.Groups.{longest_of, group_of, is_in_group, spots_in_group, group_list, groups_at, are_bounded, sum_burst, sum_rate, pace_line, part_of, parts_in, longest_group, incoming_at, incomings_at}
use Rattle.tree_bounds.proofs.Fewer.{count_queue, count_queues, queues_more, queues_few, groups_few}
use Rattle.tree_bounds.specs.Parts.{IsOfNetwork}
use Rattle.tree_bounds.specs.declared.groups.Group.{Group}

all_rest : {X : Type 0} (P : X → Type 0) (x : X) (xs : List X) → All P (x ∷ xs) → All P xs
all_rest P x xs a = λ k d h. a (suc k) d (omega (arith, h))

longest_le : (spots : List Spot) (m : ℕ) (numbers : List ℕ) → All (λ n. (spot_at spots n).frame ≤ m) numbers → longest_of spots numbers ≤ m
unfolding longest_of
longest_le spots m [] a = omega arith
longest_le spots m (n ∷ numbers) a =
    let first = a 0 0 (omega arith) in
    let rest = longest_le spots m numbers (all_rest (λ k. (spot_at spots k).frame ≤ m) n numbers a) in
    omega (arith, first, rest)

list_of_network : (net : Network) (spots : List Spot) (line : ℕ → Option Line) (k : ℕ) (numbers : List ℕ) → k ≤ length net.ports.items
    → longest_of spots numbers ≤ longest_frame → All (IsOfNetwork net) (group_list spots line k numbers)
list_of_network net spots line k [] h l = λ i d lt. absurd (omega (arith, lt))
list_of_network net spots line k (n ∷ numbers) h l = λ i d lt. at i d lt
  where
    at : (i : ℕ) (d : Group) → i < 1 → IsOfNetwork net (get_or (group_of spots line k (n ∷ numbers) ∷ []) i d)
    at zero d lt = record { source = h; longest = l }
    at (suc i) d lt = absurd (omega arith)

pub of_network : (net : Network) (spots : List Spot) (line : ℕ → Option Line) (s q k : ℕ) → AreSpots net spots → k ≤ length net.ports.items + 1
    → All (IsOfNetwork net) (groups_at spots line s q k)
unfolding groups_at
of_network net spots line s q zero a h = λ i d lt. absurd (omega (arith, lt))
of_network net spots line s q (suc k) a h =
    All-append (IsOfNetwork net) (groups_at spots line s q k) (group_list spots line k (spots_in_group spots s q k))
    (of_network net spots line s q k a (omega (arith, h)))
    (list_of_network net spots line k (spots_in_group spots s q k) (omega (arith, h))
    (longest_le spots longest_frame (spots_in_group spots s q k)
    (those_pass (λ n. (spot_at spots n).frame ≤ longest_frame) (is_in_group spots s q k) (length spots) (λ n lt e. (a.each n lt).frame))))

pub longest_in_range : (net : Network) (groups : List Group) → All (IsOfNetwork net) groups → longest_group groups ≤ longest_frame
unfolding longest_group
longest_in_range net [] a = omega arith
longest_in_range net (g ∷ groups) a =
    let first = (a 0 g (omega arith)).longest in
    let rest = longest_in_range net groups (all_rest (IsOfNetwork net) g groups a) in
    omega (arith, first, rest)

-- ---- bursts and rates
pub below_of_test : (a b : ℕ) → nat_lt a b ≡ true → a < b
below_of_test a b e = grind (arith, nat_tests)

pub sums_small : (net : Network) (groups : List Group) → (sum_of sum_burst (parts_in net groups) < 2 ^ 58) × (sum_of sum_rate (parts_in net groups) < 2 ^ 50)
sums_small net groups =
    by_tests (list_all (λ g. g.known) groups) (nat_lt (sum_by sum_burst (map (part_of net) groups)) (2 ^ 58))
    (nat_lt (sum_by sum_rate (map (part_of net) groups)) (2 ^ 50)) refl refl refl
  where
    by_tests : (k a b : Bool) → list_all (λ g. g.known) groups ≡ k → nat_lt (sum_by sum_burst (map (part_of net) groups)) (2 ^ 58) ≡ a
        → nat_lt (sum_by sum_rate (map (part_of net) groups)) (2 ^ 50) ≡ b
        → (sum_of sum_burst (parts_in net groups) < 2 ^ 58) × (sum_of sum_rate (parts_in net groups) < 2 ^ 50)
    by_tests true true true ek ea eb =
        let x = below_of_test (sum_by sum_burst (map (part_of net) groups)) (2 ^ 58) ea in
        let y = below_of_test (sum_by sum_rate (map (part_of net) groups)) (2 ^ 50) eb in
        rw (ek, ea, eb) (x, y)
    by_tests true true false ek ea eb = rw (ek, ea, eb) (omega arith, omega arith)
    by_tests true false b ek ea eb = rw (ek, ea) (omega arith, omega arith)
    by_tests false a b ek ea eb = rw ek (omega arith, omega arith)

-- ---- and paces
abbrev pub pace_burst : Option Line → ℕ
pace_burst None = 0
pace_burst (Some pace) = pace.burst

abbrev pub pace_rate : Option Line → ℕ
pace_rate None = 0
pace_rate (Some pace) = pace.rate

burst_le : (sum : Line) (pace : Option Line) → burst_with sum pace ≤ sum.burst + pace_burst pace
burst_le sum None = omega arith
burst_le sum (Some pace) = omega arith

rate_le : (sum : Line) (pace : Option Line) → rate_with sum pace ≤ sum.rate + pace_rate pace
rate_le sum None = omega arith
rate_le sum (Some pace) = omega arith

pub pace_small : (net : Network) → IsNetwork net → (longest source : ℕ) → longest ≤ longest_frame → source ≤ length net.ports.items
    → (pace_burst (pace_line net longest source) ≤ longest_frame * 1024) × (pace_rate (pace_line net longest source) ≤ fastest)
pace_small net w longest zero h lt = (omega arith, omega arith)
pace_small net w longest (suc p) h lt = (omega (arith, h), (w.ports p no_port lt).pace)

parts_le : (f sums : Part → ℕ) (m : ℕ) (net : Network) (groups : List Group) → All (λ g. f (part_of net g) ≤ sums (part_of net g) + m) groups
    → sum_by f (map (part_of net) groups) ≤ sum_by sums (map (part_of net) groups) + length groups * m
parts_le f sums m net [] a = omega arith
parts_le f sums m net (g ∷ groups) a =
    let P : Group → Type 0 = λ g. f (part_of net g) ≤ sums (part_of net g) + m in
    let first = a 0 g (omega arith) in
    let rest = parts_le f sums m net groups (all_rest P g groups a) in
    let one = sum_by-cons f (part_of net g) (map (part_of net) groups) in
    let other = sum_by-cons sums (part_of net g) (map (part_of net) groups) in
    omega (arith, first, rest, one, other)

parts_in_le : (f sums : Part → ℕ) (m : ℕ) (net : Network) (groups : List Group) → All (λ g. f (part_of net g) ≤ sums (part_of net g) + m) groups
    → sum_of f (parts_in net groups) ≤ sum_of sums (parts_in net groups) + length groups * m
parts_in_le f sums m net groups a = by_test (list_all (λ g. g.known) groups && are_bounded (map (part_of net) groups)) refl
  where
    by_test : (b : Bool) → (list_all (λ g. g.known) groups && are_bounded (map (part_of net) groups)) ≡ b
        → sum_of f (parts_in net groups) ≤ sum_of sums (parts_in net groups) + length groups * m
    by_test true e = rw e (parts_le f sums m net groups a)
    by_test false e = rw e (omega arith)

pub parts_small : (net : Network) → IsNetwork net → (groups : List Group) → All (IsOfNetwork net) groups
    → (sum_of most_burst (parts_in net groups) ≤ 2 ^ 58 - 1 + length groups * (longest_frame * 1024))
    × (sum_of most_rate (parts_in net groups) ≤ 2 ^ 50 - 1 + length groups * fastest)
parts_small net w groups a =
    let small = sums_small net groups in
    let bursts = parts_in_le most_burst sum_burst (longest_frame * 1024) net groups
    (λ i d lt. let g = get_or groups i d in let k = a i d lt in
    let le = burst_le (part_of net g).sum (part_of net g).pace in
    let pace = (pace_small net w g.longest g.source k.longest k.source).0 in omega (arith, le, pace)) in
    let rates = parts_in_le most_rate sum_rate fastest net groups
    (λ i d lt. let g = get_or groups i d in let k = a i d lt in
    let le = rate_le (part_of net g).sum (part_of net g).pace in
    let pace = (pace_small net w g.longest g.source k.longest k.source).1 in omega (arith, le, pace)) in
    (omega (arith, small.0, bursts), omega (arith, small.1, rates))

pub incomings_length : (net : Network) (spots : List Spot) (line : ℕ → Option Line) (s q : ℕ) → length (incomings_at net spots line s q) ≡ q
unfolding incomings_at
incomings_length net spots line s zero = refl
incomings_length net spots line s (suc q) =
    let count = length-append (incomings_at net spots line s q) (incoming_at net spots line s q ∷ []) in
    let few = incomings_length net spots line s q in
    omega (arith, count, few)

-- what each queue adds
sums_grow : (net : Network) (spots : List Spot) (line : ℕ → Option Line) (s : ℕ) (f : Incoming → ℕ) (m : ℕ) (total : ℕ → ℕ) (q : ℕ)
    → ((i : ℕ) → total i + f (incoming_at net spots line s i) ≤ total (suc i) + m) → sum_by f (incomings_at net spots line s q) ≤ q * m + total q
unfolding incomings_at
sums_grow net spots line s f m total zero h = omega arith
sums_grow net spots line s f m total (suc q) h =
    let split = sum_by-append f (incomings_at net spots line s q) (incoming_at net spots line s q ∷ []) in
    let last = h q in
    let rest = sums_grow net spots line s f m total q h in
    omega (arith, split, last, rest)

times_more : (a b c m : ℕ) → c ≡ a + b → c * m ≡ a * m + b * m
times_more a b c m e = ap (λ k. k * m) e ∙ (let f : (a + b) * m ≡ a * m + b * m = omega arith in f)

times_le : (a b m : ℕ) → a ≤ b → a * m ≤ b * m
times_le a b m h = let c = b - a in let e : b ≡ a + c = omega (arith, h) in let f = times_more a c b m e in omega (arith, f)

all_bounded : (net : Network) (spots : List Spot) (line : ℕ → Option Line) (s : ℕ) (P : Incoming → Type 0) (q : ℕ)
    → ((i : ℕ) → P (incoming_at net spots line s i)) → All P (incomings_at net spots line s q)
unfolding incomings_at
all_bounded net spots line s P zero h = λ k d lt. absurd (omega (arith, lt))
all_bounded net spots line s P (suc q) h =
    All-append P (incomings_at net spots line s q) (incoming_at net spots line s q ∷ []) (all_bounded net spots line s P q h) (λ k d lt. one k d lt)
  where
    one : (k : ℕ) (d : Incoming) → k < 1 → P (get_or (incoming_at net spots line s q ∷ []) k d)
    one zero d lt = h q
    one (suc k) d lt = absurd (omega arith)

pub in_range : (net : Network) (line : ℕ → Option Line) (s q : ℕ) → IsNetwork net → q ≤ 8 → AreInRange (incomings_at net (spots_of net) line s q)
unfolding longest_frame fastest
in_range net line s q w h = record {
  few = let e = incomings_length net spots line s q in omega (arith, e, h);
  longest = all_bounded net spots line s (λ queue. queue.longest ≤ longest_frame) q (λ i. longest_in_range net (groups i) (each i));
  bursts =
      let all = sums_grow net spots line s (λ queue. sum_of most_burst queue.parts) (2 ^ 58 - 1) (λ i. count_queues spots s i * (longest_frame * 1024)) q
      (λ i. one_more i (longest_frame * 1024) (sum_of most_burst (parts_in net (groups i))) (2 ^ 58 - 1) (parts_small net w (groups i) (each i)).0) in
      let few = times_le (count_queues spots s q) 16384 (longest_frame * 1024) (queues_few net s q w) in
      omega (arith, all, few, h);
  rates =
      let all = sums_grow net spots line s (λ queue. sum_of most_rate queue.parts) (2 ^ 50 - 1) (λ i. count_queues spots s i * fastest) q
      (λ i. one_more i fastest (sum_of most_rate (parts_in net (groups i))) (2 ^ 50 - 1) (parts_small net w (groups i) (each i)).1) in
      let few = times_le (count_queues spots s q) 16384 fastest (queues_few net s q w) in
      omega (arith, all, few, h);
}
  where
    spots : List Spot
    spots = spots_of net

    groups : ℕ → List Group
    groups i = groups_at spots line s i (length net.ports.items + 1)

    each : (i : ℕ) → All (IsOfNetwork net) (groups i)
    each i = of_network net spots line s i (length net.ports.items + 1) (spots_in_range net w) (omega arith)

    one_more : (i m it limit : ℕ) → it ≤ limit + length (groups i) * m → count_queues spots s i * m + it ≤ count_queues spots s (suc i) * m + limit
    one_more i m it limit le =
        let few = times_le (length (groups i)) (count_queue spots s i) m (groups_few spots line s i (length net.ports.items + 1)) in
        let more = times_more (count_queues spots s i) (count_queue spots s i) (count_queues spots s (suc i)) m (queues_more spots s i) in
        omega (arith, le, few, more)

-- ---- one queue more
pub incomings_zero : (net : Network) (spots : List Spot) (line : ℕ → Option Line) (s : ℕ) → incomings_at net spots line s 0 ≡ []
unfolding incomings_at
incomings_zero net spots line s = refl

pub incomings_more : (net : Network) (spots : List Spot) (line : ℕ → Option Line) (s q : ℕ)
    → incomings_at net spots line s (q + 1) ≡ incomings_at net spots line s q ++ incoming_at net spots line s q ∷ []
unfolding incomings_at
incomings_more net spots line s q = rw add-one refl
