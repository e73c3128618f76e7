-- Bundles of a queue whose parts are within their limits are within theirs.
use Rattle.std.proofs.Common.{◌≡◌, ℕ, zero, suc, ◌<◌, ◌≤◌, ◌+◌, ◌*◌, ◌/◌, ◌^◌, ◌&&◌, Bool, true, false, Option, Some, None, List, [], ◌∷◌, length, get_or, map, nat_lt, if◌then◌else◌, refl, sym, ◌∙◌, ap, subst, arith, inl, inr, length-append}
use Rattle.std.specs.Prelude.{All}
use Rattle.std.specs.List.{sum_by, list_all}
use Rattle.std.specs.Int.{div_ceil}
use Rattle.std.specs.Option.{option_map}
use Rattle.std.proofs.lemmas.Bool.{cases_eq, cases_lt}
use Rattle.std.proofs.lemmas.List.{length-map, get_or_append_left, get_or_at, get_or_past}
use Rattle.std.proofs.lemmas.List.Elements.{All-head, All-tail, All-append, All-cons, All-nil}
use Rattle.std.proofs.lemmas.List.Sums.{sum_by-cons}
use Rattle.std.proofs.Math.Nat.{mul-le-mul_right, mul-le-mul_left, div-mul-le_self}
use Rattle.arrival_lines.specs.Steps.{burst_with, rate_with, most_burst, most_rate}
use Rattle.arrival_lines.specs.declared.grid.Line.{Line}
use Rattle.arrival_lines.specs.declared.grid.Part.{Part}
use Rattle.arrival_lines.specs.declared.grid.Queue.{Queue}
use Rattle.arrival_lines.proofs.Units.{up_covers}
use Rattle.arrival_stairs.specs.BelowLines.{stair_burst, stair_rate}
use Rattle.arrival_stairs.specs.Stairs.{IsStair, AreBundles, stair_level, level_part, levels_at}
use Rattle.arrival_stairs.specs.Views.{Bunch, bunch_of, bunches}
use Rattle.arrival_stairs.specs.declared.stairs.Bundle.{Bundle}
use Rattle.arrival_stairs.specs.declared.stairs.Stair.{Stair}
use Rattle.arrival_stairs.proofs.OneExcess.{part_by}
use Rattle.port_bounds.specs.StairsIncoming.{StairsIn, AreStairsInRange, stairs_at}
use Rattle.tree_network.specs.Networks.{IsNetwork, longest_frame, fastest, port_at}
use Rattle.tree_network.specs.declared.network.Network.{Network}
use Rattle.tree_network.specs.declared.spots.Spot.{Spot}
use Rattle.tree_network.specs.Spots.{spots_of}
use Rattle.tree_network.proofs.InRange.{in_range as spots_in_range}
use Rattle.tree_network.proofs.Those.{of_both, those_pass}
use Rattle.port_bounds.specs.Incoming.{Incoming}
use Rattle.port_bounds.specs.Ranges.{AreInRange}
use Rattle.port_bounds.specs.StairRows.{AreStairRows}
use Rattle.tree_bounds.specs.Bunches.{Arriving, AreRowsOf, stair_list, stairs_among, bunch_of_group, arriving_at, arriving_below, arriving_of}
use Rattle.tree_bounds.specs.Equations.{comes_to}
use Rattle.tree_bounds.specs.Groups.{is_in_group, spots_in_group, group_list, groups_at, part_of, are_bounded, sum_burst, sum_rate}
use Rattle.tree_bounds.specs.Lines.{line_of}
use Rattle.tree_bounds.specs.Parts.{IsOfNetwork}
use Rattle.tree_bounds.specs.declared.groups.Group.{Group}
use Rattle.tree_bounds.proofs.Bunched.{lines_known, lines_of_coming, arriving_length}
use Rattle.tree_bounds.proofs.Ranged as ranged
use Rattle.tree_bounds.proofs.Ranged.{pace_burst, pace_rate, pace_small, of_network}

-- ---- what a stair brings at 0 is at most its line's burst
pub start_low : (s : Stair) → IsStair s → stair_level 0 s ≤ stair_burst s
start_low s is =
    let r = stair_rate s in
    let c = div_ceil (r * s.jitter) (10 ^ 12) in
    let k = s.jitter / s.gap in
    let zero_more : (0 + s.jitter) / s.gap ≡ k = let z : 0 + s.jitter ≡ s.jitter = omega arith in ap (λ m. m / s.gap) z in
    let fast : s.frame * 10 ^ 12 ≤ s.gap * r = up_covers (s.frame * 10 ^ 12) s.gap r is.some_gap refl in
    let early : r * s.jitter ≤ 10 ^ 12 * c = up_covers (r * s.jitter) (10 ^ 12) c (omega arith) refl in
    let low : k * s.gap ≤ s.jitter = div-mul-le_self s.jitter s.gap in
    let a : (s.frame * 10 ^ 12) * k ≤ (s.gap * r) * k = mul-le-mul_right k fast in
    let b : r * (k * s.gap) ≤ r * s.jitter = mul-le-mul_left r low in
    let e = turned s.gap r k in
    let f = taken s.frame k in
    let g : s.frame * k ≤ c = omega (arith, a, b, e, f, early) in
    let h = ap (λ m. s.frame * (m + 1)) zero_more in
    let l = spread s.frame k in
    omega (arith, g, h, l)
  where
    turned : (p r k : ℕ) → (p * r) * k ≡ r * (k * p)
    turned p r k = grind arith

    taken : (f k : ℕ) → (f * 10 ^ 12) * k ≡ 10 ^ 12 * (f * k)
    taken f k = grind arith

    spread : (f k : ℕ) → f * (k + 1) ≡ f * k + f
    spread f k = grind arith

starts_low : (ss : List Stair) → All IsStair ss → sum_by (stair_level 0) ss ≤ sum_by stair_burst ss
starts_low [] all = omega arith
starts_low (s ∷ ss) all =
    let one = start_low s (All-head IsStair s ss all) in
    let rest = starts_low ss (All-tail IsStair s ss all) in
    let a = sum_by-cons (stair_level 0) s ss in
    let b = sum_by-cons stair_burst s ss in
    omega (arith, one, rest, a, b)

-- ---- bundles as they are seen
abbrev level_by : Bunch → Part
level_by w = level_part (sum_by (stair_level 0) w.stairs) w.pace

levels_are : (bundles : List Bundle) → levels_at bundles 0 ≡ map level_by (bunches bundles)
levels_are [] = refl
levels_are (b ∷ bs) = ap (λ (ps : List Part). level_by (bunch_of b) ∷ ps) (levels_are bs)

abbrev AreStairsOf : Bunch → Type 0
AreStairsOf w = All IsStair w.stairs

stairs_seen : (bundles : List Bundle) → All AreStairsOf (bunches bundles) → All (λ b. All IsStair b.stairs.items) bundles
stairs_seen [] all = λ k d h. absurd (omega (arith, h))
stairs_seen (b ∷ bs) all =
    All-cons (λ c. All IsStair c.stairs.items) b bs (All-head AreStairsOf (bunch_of b) (bunches bs) all) (stairs_seen bs (All-tail AreStairsOf (bunch_of b) (bunches bs) all))

record IsPaced (w : Bunch) : Type 0 where
  burst : pace_burst w.pace ≤ longest_frame * 1024
  rate : pace_rate w.pace ≤ fastest

with_burst : (level : ℕ) (pace : Option Line) → burst_with record { burst = level; rate = 0 } pace ≤ level + pace_burst pace
with_burst level None = omega arith
with_burst level (Some pace) = omega arith

with_rate : (level : ℕ) (pace : Option Line) → rate_with record { burst = level; rate = 0 } pace ≤ pace_rate pace
with_rate level None = omega arith
with_rate level (Some pace) = omega arith

bursts_low : (ws : List Bunch) → All AreStairsOf ws → All IsPaced ws
    → sum_by most_burst (map level_by ws) ≤ sum_by sum_burst (map part_by ws) + length ws * (longest_frame * 1024)
bursts_low [] stairs paced = omega arith
bursts_low (w ∷ ws) stairs paced =
    let start = starts_low w.stairs (All-head AreStairsOf w ws stairs) in
    let own = with_burst (sum_by (stair_level 0) w.stairs) w.pace in
    let pace = (All-head IsPaced w ws paced).burst in
    let rest = bursts_low ws (All-tail AreStairsOf w ws stairs) (All-tail IsPaced w ws paced) in
    let a = sum_by-cons most_burst (level_by w) (map level_by ws) in
    let b = sum_by-cons sum_burst (part_by w) (map part_by ws) in
    let c = next_time (length ws) (longest_frame * 1024) in
    omega (arith, start, own, pace, rest, a, b, c)
  where
    next_time : (n m : ℕ) → suc n * m ≡ n * m + m
    next_time n m = omega arith

rates_low : (ws : List Bunch) → All IsPaced ws → sum_by most_rate (map level_by ws) ≤ length ws * fastest
rates_low [] paced = omega arith
rates_low (w ∷ ws) paced =
    let own = with_rate (sum_by (stair_level 0) w.stairs) w.pace in
    let pace = (All-head IsPaced w ws paced).rate in
    let rest = rates_low ws (All-tail IsPaced w ws paced) in
    let a = sum_by-cons most_rate (level_by w) (map level_by ws) in
    let c = next_time (length ws) fastest in
    omega (arith, own, pace, rest, a, c)
  where
    next_time : (n m : ℕ) → suc n * m ≡ n * m + m
    next_time n m = omega arith

-- ---- of groups
among_in_range : (stair : ℕ → Option Stair) (numbers : List ℕ) → All (λ n. (t : Stair) → stair n ≡ Some t → IsStair t) numbers
    → All IsStair (stairs_among stair numbers)
unfolding stairs_among
among_in_range stair [] all = λ k d h. absurd (omega (arith, h))
among_in_range stair (n ∷ numbers) all =
    All-append IsStair (stair_list (stair n)) (stairs_among stair numbers) (by_stair (stair n) refl)
    (among_in_range stair numbers (λ k d h. all (suc k) d (omega (arith, h))))
  where
    by_stair : (o : Option Stair) → stair n ≡ o → All IsStair (stair_list o)
    by_stair None e = λ k d h. absurd (omega (arith, h))
    by_stair (Some t) e = All-cons IsStair t [] (all 0 0 (omega arith) t e) (All-nil IsStair)

groups_length : (spots : List Spot) (line : ℕ → Option Line) (s q k : ℕ) → length (groups_at spots line s q k) ≤ k
unfolding groups_at
groups_length spots line s q zero = omega arith
groups_length spots line s q (suc k) =
    let rest = groups_length spots line s q k in
    let both = length-append (groups_at spots line s q k) (group_list spots line k (spots_in_group spots s q k)) in
    let one = at_most_one (spots_in_group spots s q k) in
    omega (arith, rest, both, one)
  where
    at_most_one : (numbers : List ℕ) → length (group_list spots line k numbers) ≤ 1
    at_most_one [] = omega arith
    at_most_one (n ∷ numbers) = omega arith

module _ (net : Network) (w : IsNetwork net) (stair : ℕ → Option Stair)
    (are : (n : ℕ) (t : Stair) → n < length (spots_of net) → stair n ≡ Some t → IsStair t) (s q : ℕ) where
  abbrev gs : List Group
  gs = groups_at (spots_of net) (λ n. line_of (stair n)) s q (length net.ports.items + 1)

  abbrev ws : List Bunch
  ws = map (bunch_of_group net (spots_of net) stair s q) gs

  stairs_all : (groups : List Group) → All AreStairsOf (map (bunch_of_group net (spots_of net) stair s q) groups)
  stairs_all [] = λ k d h. absurd (omega (arith, h))
  stairs_all (g ∷ groups) =
      All-cons AreStairsOf (bunch_of_group net (spots_of net) stair s q g) (map (bunch_of_group net (spots_of net) stair s q) groups)
      (among_in_range stair (spots_in_group (spots_of net) s q g.source)
      (those_pass (λ n. (t : Stair) → stair n ≡ Some t → IsStair t) (is_in_group (spots_of net) s q g.source) (length (spots_of net)) (λ n lt e t f. are n t lt f)))
      (stairs_all groups)

  paced_all : (groups : List Group) → All (IsOfNetwork net) groups → All IsPaced (map (bunch_of_group net (spots_of net) stair s q) groups)
  paced_all [] all = λ k d h. absurd (omega (arith, h))
  paced_all (g ∷ groups) all =
      let own = All-head (IsOfNetwork net) g groups all in
      let small = pace_small net w g.longest g.source own.longest own.source in
      All-cons IsPaced (bunch_of_group net (spots_of net) stair s q g) (map (bunch_of_group net (spots_of net) stair s q) groups)
      record { burst = small.0; rate = small.1 } (paced_all groups (All-tail (IsOfNetwork net) g groups all))

  pub bundles_small : (bundles : List Bundle) → (arriving_at net (spots_of net) stair s q).bunches ≡ Some (bunches bundles) → AreBundles bundles
  unfolding longest_frame fastest
  bundles_small bundles e = by_test (list_all (λ g. g.known) gs) (are_bounded (map (part_of net) gs)) refl refl
    where
      Now : Bool → Type 0
      Now b = option_map (λ parts. ws) (if b then Some (map (part_of net) gs) else None) ≡ Some (bunches bundles)

      same : (b : Bool) → Now b → b ≡ true → ws ≡ bunches bundles
      same true h f = let g : Some ws ≡ Some (bunches bundles) = h in cc
      same false h f = absurd (let g : None ≡ Some (bunches bundles) = h in cc)

      never : Now false → ⊥
      never h = absurd (let g : None ≡ Some (bunches bundles) = h in cc)

      found : list_all (λ g. g.known) gs ≡ true → are_bounded (map (part_of net) gs) ≡ true → AreBundles bundles
      found known bounded =
          let test : (list_all (λ g. g.known) gs && are_bounded (map (part_of net) gs)) ≡ true = rw (known, bounded) refl in
          let is = same (list_all (λ g. g.known) gs && are_bounded (map (part_of net) gs)) e test in
          let stairs = subst (λ (us : List Bunch). All AreStairsOf us) is (stairs_all gs) in
          let paced = subst (λ (us : List Bunch). All IsPaced us) is
          (paced_all gs (of_network net (spots_of net) (λ n. line_of (stair n)) s q (length net.ports.items + 1) (spots_in_range net w) (omega arith))) in
          let parts = ap (map part_by) (sym is) ∙ lines_known net (spots_of net) stair s q known in
          let both = of_both (nat_lt (sum_by sum_burst (map (part_of net) gs)) (2 ^ 58)) (nat_lt (sum_by sum_rate (map (part_of net) gs)) (2 ^ 50)) bounded in
          let burst = ranged.below_of_test (sum_by sum_burst (map (part_of net) gs)) (2 ^ 58) both.0 in
          let sum = ap (sum_by sum_burst) parts in
          let few = groups_length (spots_of net) (λ n. line_of (stair n)) s q (length net.ports.items + 1) in
          let count = length-map gs (bunch_of_group net (spots_of net) stair s q) in
          let long = ap length is in
          let levels = levels_are bundles in
          let a = bursts_low (bunches bundles) stairs paced in
          let b = rates_low (bunches bundles) paced in
          let c = ap (sum_by most_burst) levels in
          let d = ap (sum_by most_rate) levels in
          let ports = w.few_ports in
          let n = length (bunches bundles) in
          let most : n ≤ 4097 = omega (arith, few, count, long, ports) in
          let m = mul-le-mul_right (2 ^ 24 * 1024) most in
          let f = mul-le-mul_right (1024 * 10 ^ 12) most in
          record {
            stairs = stairs_seen bundles stairs;
            bursts = omega (arith, a, c, sum, burst, m);
            rates = omega (arith, b, d, f);
          }

      by_test : (k b : Bool) → list_all (λ g. g.known) gs ≡ k → are_bounded (map (part_of net) gs) ≡ b → AreBundles bundles
      by_test true true ek eb = found ek eb
      by_test true false ek eb =
          let off : (list_all (λ g. g.known) gs && are_bounded (map (part_of net) gs)) ≡ false = rw (ek, eb) refl in absurd (never (subst Now off e))
      by_test false b ek eb =
          let off : (list_all (λ g. g.known) gs && are_bounded (map (part_of net) gs)) ≡ false = rw ek refl in absurd (never (subst Now off e))

-- ---- of a port
arriving_found : (net : Network) (spots : List Spot) (stair : ℕ → Option Stair) (s count q : ℕ) (d : Arriving) → q < count
    → get_or (arriving_below net spots stair s count) q d ≡ arriving_at net spots stair s q
unfolding arriving_below
arriving_found net spots stair s zero q d h = absurd (omega (arith, h))
arriving_found net spots stair s (suc n) q d h =
    let count = arriving_length net spots stair s n in
    elim (cases_eq q n) [
      | inl same ↦
          get_or_at (arriving_below net spots stair s n) (arriving_at net spots stair s n) [] d q (omega (arith, count, same))
          ∙ ap (λ k. arriving_at net spots stair s k) (sym same)
      | inr other ↦
          get_or_append_left (arriving_below net spots stair s n) (arriving_at net spots stair s n ∷ []) d q (omega (arith, count, h, other))
          ∙ arriving_found net spots stair s n q d (omega (arith, h, other))
    ]

at_arriving : (queues : List StairsIn) (q : ℕ) → get_or (map arriving_of queues) q (arriving_of record { bundles = None; longest = 0 }) ≡ arriving_of (stairs_at queues q)
at_arriving [] q = refl
at_arriving (x ∷ xs) zero = refl
at_arriving (x ∷ xs) (suc q) = at_arriving xs q

-- what arrives at queue q
pub queue_arriving : (net : Network) (spots : List Spot) (stair : ℕ → Option Stair) (s count q : ℕ) (queues : List StairsIn)
    → map arriving_of queues ≡ arriving_below net spots stair s count → q < count → arriving_of (stairs_at queues q) ≡ arriving_at net spots stair s q
queue_arriving net spots stair s count q queues are h =
    sym (at_arriving queues q) ∙ ap (λ (xs : List Arriving). get_or xs q (arriving_of record { bundles = None; longest = 0 })) are
    ∙ arriving_found net spots stair s count q (arriving_of record { bundles = None; longest = 0 }) h

pub stairs_in_range : (net : Network) (stair : ℕ → Option Stair) (s count : ℕ) (queues : List StairsIn) → IsNetwork net → count ≤ 8
    → ((n : ℕ) (t : Stair) → n < length (spots_of net) → stair n ≡ Some t → IsStair t)
    → map arriving_of queues ≡ arriving_below net (spots_of net) stair s count → AreStairsInRange queues
stairs_in_range net stair s count queues w few are is = record {
  lines = subst (λ (xs : List Incoming). AreInRange xs) (sym (lines_of_coming net (spots_of net) stair s count queues is))
      (ranged.in_range net (λ n. line_of (stair n)) s count w few);
  stairs = λ q bundles known. elim (cases_lt q count) [
    | inl inside ↦
        bundles_small net w stair are s q bundles
        (sym (ap (λ (x : Arriving). x.bunches) (queue_arriving net (spots_of net) stair s count q queues is inside)) ∙ ap (option_map bunches) known)
    | inr past ↦
        let long = length-map queues arriving_of in
        let same = ap length is in
        let all = arriving_length net (spots_of net) stair s count in
        let none : None ≡ Some bundles = sym (ap (λ (x : StairsIn). x.bundles) (get_or_past queues q record { bundles = None; longest = 0 } (omega (arith, long, same, all, past)))) ∙ known in
        absurd (cc)
  ];
}

-- ---- rows
pub rows_are : (net : Network) (stair : ℕ → Option Stair) (s : ℕ) (queues : List StairsIn) (rows : List (Option Queue)) → map arriving_of queues ≡ comes_to net stair s
    → AreStairRows (port_at net s) queues rows → AreRowsOf (port_at net s) (comes_to net stair s) rows
rows_are net stair s queues rows are is =
    let long = length-map queues arriving_of in
    let same = ap length are in
    record {
      count = let c = is.count in omega (arith, c, long, same);
      each = λ q h. record { queues = queues; are = are; row = is.each q (omega (arith, h, long, same)) };
    }
