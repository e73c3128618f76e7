-- An overload of the parts of a queue is a load of its links above the rate: the groups of a queue are apart, so that their sums are no more.
use Rattle.std.proofs.Common.{◌≡◌, ◌⊎◌, ℕ, zero, suc, ◌<◌, ◌≤◌, ◌+◌, ◌-◌, ◌==◌, Bool, true, false, cond, Option, Some, None, List, [], ◌∷◌, ◌++◌, length, get_or, map, if◌then◌else◌, refl, sym, ◌∙◌, ap, arith, inl, inr}
use Rattle.std.specs.Prelude.{is_some, slice_get, sum}
use Rattle.std.specs.List.{list_all, sum_by}
use Rattle.std.proofs.lemmas.List.{get_or-take, get_or-drop, length-take-le, length-drop, map-append}
use Rattle.std.proofs.lemmas.List.Folds.{list_all-append}
use Rattle.std.proofs.lemmas.List.Sums.{sum_by-cons, sum_by-append}
use Rattle.std.proofs.lemmas.Option.{get_or_from_slice_get}
use Rattle.run_laws.specs.Totals.{is_on}
use Rattle.net_laws.specs.paces.Groups.{part_number}
use Rattle.tree_runs.specs.Trees.{hops_in, tree_server_before}
use Rattle.arrival_lines.specs.declared.grid.Part.{Part}
use Rattle.arrival_lines.specs.declared.grid.Queue.{Queue}
use Rattle.arrival_lines.specs.declared.grid.Service.{Service}
use Rattle.arrival_stairs.specs.declared.stairs.Stair.{Stair}
use Rattle.port_bounds.specs.Incoming.{Incoming, queue_in, both, joined_parts, longest_frames_of, before, behind}
use Rattle.port_bounds.specs.Ports.{port_service}
use Rattle.port_bounds.specs.Services.{round_robin_share, IsServiceAt}
use Rattle.port_bounds.proofs.Queues.{parts_append, parts_none}
use Rattle.tree_network.specs.Lists.{those}
use Rattle.tree_network.specs.Networks.{IsNetwork, port_at, queues_of}
use Rattle.tree_network.specs.Spots.{spots_of}
use Rattle.tree_network.specs.declared.network.Discipline.{Discipline}
use Rattle.tree_network.specs.declared.network.Discipline.TheVariants.{Fifo, Priority, Drr}
use Rattle.tree_network.specs.declared.network.Link.{Link}
use Rattle.tree_network.specs.declared.network.Network.{Network}
use Rattle.tree_network.specs.declared.network.Node.{Node}
use Rattle.tree_network.specs.declared.spots.Spot.{Spot}
use Rattle.tree_network.proofs.Those.{of_both, those_zero}
use Rattle.tree_runs.specs.Parts.{is_of_tree_part}
use Rattle.tree_bounds.specs.Equations.{MeetsEquations, arrivals_of}
use Rattle.tree_bounds.specs.Groups.{rate_in, group_of, group_list, groups_at, part_of, spots_in_group}
use Rattle.tree_bounds.specs.Lines.{line_of}
use Rattle.tree_bounds.specs.declared.groups.Group.{Group}
use Rattle.tree_bounds.proofs.Ranged.{incomings_length}
use Rattle.tree_bounds.specs.guarantee.Causes.{first_served, rates_of, IsSlow}
use Rattle.tree_bounds.specs.guarantee.Loads.{rates_at, rates_below, sum_below, IsMoreThan, OverloadIsLoad}
use Rattle.tree_bounds.specs.guarantee.Routes.{routes_of, node_of}
use Rattle.tree_bounds.proofs.guarantee.Gathered.{in_part}
use Rattle.tree_bounds.proofs.guarantee.TreesOf.{tree_at}
use Rattle.tree_bounds.proofs.guarantee.Held.{incoming_found}
use Rattle.tree_bounds.proofs.guarantee.LinkRates as rates
use Rattle.tree_bounds.proofs.guarantee.LinkRates.{passes, link_passes, rate_at, load_at, rates_are}
use Rattle.tree_bounds.proofs.guarantee.LoadSums.{below_le, below_add, below_first, below_split, those_more}
use Rattle.tree_bounds.proofs.guarantee.Overloads.{parts_some}

-- ---- sums apart
below_nothing : (f : ℕ → ℕ) (n : ℕ) → ((k : ℕ) → k < n → f k ≡ 0) → sum_below f n ≡ 0
below_nothing f zero h = refl
below_nothing f (suc n) h = let rest = below_nothing f n (λ k l. h k (omega (arith, l))) in let one = h n (omega arith) in omega (arith, rest, one)

-- of some tests of which one alone passes
one_alone : (tests : ℕ → Bool) (x few : ℕ) (b : Bool) → ((k : ℕ) → k < few → tests k ≡ true → b ≡ true) → ((k m : ℕ) → k < few → m < few → tests k ≡ true → tests m ≡ true → k ≡ m)
    → sum_below (λ k. cond (tests k) x 0) few ≤ cond b x 0
one_alone tests x zero b own alone = omega arith
one_alone tests x (suc few) b own alone =
    by_last (one_alone tests x few b (λ k l e. own k (omega (arith, l)) e) (λ k m l h e f. alone k m (omega (arith, l)) (omega (arith, h)) e f)) (tests few) refl
  where
    off : (c : Bool) → (k : ℕ) → tests few ≡ true → k < few → tests k ≡ c → cond c x 0 ≡ 0
    off false k e l f = refl
    off true k e l f = absurd (let same = alone k few (omega (arith, l)) (omega arith) f e in omega (arith, same, l))

    by_last : sum_below (λ k. cond (tests k) x 0) few ≤ cond b x 0 → (c : Bool) → tests few ≡ c → sum_below (λ k. cond (tests k) x 0) few + cond (tests few) x 0 ≤ cond b x 0
    by_last rest false e = let none = ap (λ d. cond d x 0) e in omega (arith, rest, none)
    by_last rest true e =
        let last = ap (λ d. cond d x 0) e in
        let all = ap (λ d. cond d x 0) (own few (omega arith) e) in
        let none = below_nothing (λ k. cond (tests k) x 0) few (λ k l. off (tests k) k e l refl) in
        omega (arith, last, all, none)

apart : (f : ℕ → ℕ) (test : ℕ → Bool) (tests : ℕ → ℕ → Bool) (few n : ℕ) → ((k i : ℕ) → k < few → i < n → tests k i ≡ true → test i ≡ true)
    → ((k m i : ℕ) → i < n → tests k i ≡ true → tests m i ≡ true → k ≡ m) → sum_below (λ k. sum_by f (those (tests k) n)) few ≤ sum_by f (those test n)
apart f test tests few zero own alone =
    let none = below_nothing (λ k. sum_by f (those (tests k) 0)) few (λ k l. ap (sum_by f) (those_zero (tests k))) in omega (arith, none)
apart f test tests few (suc n) own alone =
    let rest = apart f test tests few n (λ k i l h e. own k i l (omega (arith, h)) e) (λ k m i h e g. alone k m i (omega (arith, h)) e g) in
    let each = below_le (λ k. sum_by f (those (tests k) (suc n))) (λ k. sum_by f (those (tests k) n) + cond (tests k n) (f n) 0) few
    (λ k l. let e = those_more f (tests k) n in omega (arith, e)) in
    let two = below_add (λ k. sum_by f (those (tests k) n)) (λ k. cond (tests k n) (f n) 0) few in
    let one = one_alone (λ k. tests k n) (f n) few (test n) (λ k l e. own k n l (omega arith) e) (λ k m l h e g. alone k m n (omega arith) e g) in
    let more = those_more f test n in
    omega (arith, rest, each, two, one, more)

abbrev sum_rates : List Part → ℕ
sum_rates parts = sum_by (λ part. part.sum.rate) parts

-- ---- several queues
both_most : (a b : Option (List Part)) → rates_of (both a b) ≤ rates_of a + rates_of b
both_most None b = omega arith
both_most (Some a) None = omega arith
both_most (Some a) (Some b) = let e = sum_by-append (λ (part : Part). part.sum.rate) a b in omega (arith, e)

joined_most : (queues : List Incoming) (load : ℕ → ℕ) → ((i : ℕ) → i < length queues → rates_of (queue_in queues i).parts ≤ load i) → rates_of (joined_parts queues) ≤ sum_below load (length queues)
unfolding joined_parts
joined_most [] load each = omega arith
joined_most (x ∷ xs) load each =
    let rest = joined_most xs (λ i. load (suc i)) (λ i h. each (suc i) (omega (arith, h))) in
    let one = each 0 (omega arith) in
    let first = below_first load (length xs) in
    let two = both_most x.parts (joined_parts xs) in
    omega (arith, rest, one, first, two)

-- ---- the sums of a queue's groups
module _ (net : Network) (w : IsNetwork net) (row : ℕ → ℕ → Option Queue) (stair : ℕ → Option Stair) (meets : MeetsEquations net row stair) where
  abbrev spots : List Spot
  spots = spots_of net

  abbrev brought : (s q k : ℕ) → ℕ
  brought s q k = rates.brought net w row stair meets s q k

  -- a link of a group passes the queue, and is of no other group there
  passes_is : (link : Link) (s q : ℕ) (xs : List Node) → is_on s q (hops_in (map (node_of link) xs)) ≡ passes s q xs
  passes_is link s q [] = refl
  passes_is link s q (x ∷ xs) = ap (λ b. if x.port == s then x.queue == q else b) (passes_is link s q xs)

  pub passes_of_test : (i s q k : ℕ) → i < length net.links.items → is_of_tree_part (routes_of net) s q k i ≡ true → link_passes s q (slice_get net.links.items i) ≡ true
  passes_of_test i s q k h e =
      let at = rates.link_at net i w h in
      let link = at.link in
      let tree = tree_at net i link h (sym (get_or_from_slice_get net.links.items i link link at.found)) in
      let both = of_both (is_on s q (hops_in (map (node_of link) link.nodes.items))) (part_number (tree_server_before s (map (node_of link) link.nodes.items)) == k)
      (sym (in_part net i s q k link tree) ∙ e) in
      ap (link_passes s q) at.found ∙ sym (passes_is link s q link.nodes.items) ∙ both.0

  same_group : (i s q k m : ℕ) → i < length net.links.items → is_of_tree_part (routes_of net) s q k i ≡ true → is_of_tree_part (routes_of net) s q m i ≡ true → k ≡ m
  same_group i s q k m h e f =
      let one = rates.spot_of_test net w row stair meets i s q k h e in
      let other = rates.spot_of_test net w row stair meets i s q m h f in
      sym (ap (λ (x : Spot). x.source) one.is ∙ one.source) ∙ ap (λ (x : Spot). x.source) other.is ∙ other.source

  group_sum : (s q k : ℕ) (xs : List ℕ) → spots_in_group spots s q k ≡ xs → list_all (λ g. g.known) (group_list spots (λ n. line_of (stair n)) k xs) ≡ true
      → sum_rates (map (part_of net) (group_list spots (λ n. line_of (stair n)) k xs)) ≡ brought s q k
  group_sum s q k [] e all =
      let rate = rates.group_rate net w row stair meets s q k (ap (list_all (λ n. is_some (line_of (stair n)))) e) in
      let none = ap (sum_by (λ n. rate_in (line_of (stair n)))) e in
      omega (arith, rate, none)
  group_sum s q k (m ∷ ms) e all =
      let own = of_both (list_all (λ n. is_some (line_of (stair n))) (m ∷ ms)) true all in
      let rate = rates.group_rate net w row stair meets s q k (ap (list_all (λ n. is_some (line_of (stair n)))) e ∙ own.0) in
      let same = ap (sum_by (λ n. rate_in (line_of (stair n)))) e in
      let one = sum_by-cons (λ (part : Part). part.sum.rate) (part_of net (group_of spots (λ n. line_of (stair n)) k (m ∷ ms))) [] in
      omega (arith, rate, same, one)

  groups_sum : (s q n : ℕ) → list_all (λ g. g.known) (groups_at spots (λ m. line_of (stair m)) s q n) ≡ true
      → sum_rates (map (part_of net) (groups_at spots (λ m. line_of (stair m)) s q n)) ≡ sum_below (brought s q) n
  unfolding groups_at
  groups_sum s q zero all = refl
  groups_sum s q (suc n) all =
      let old = groups_at spots (λ m. line_of (stair m)) s q n in
      let new = group_list spots (λ m. line_of (stair m)) n (spots_in_group spots s q n) in
      let both = of_both (list_all (λ (g : Group). g.known) old) (list_all (λ (g : Group). g.known) new) (sym (list_all-append (λ (g : Group). g.known) old new) ∙ all) in
      let rest = groups_sum s q n both.0 in
      let one = group_sum s q n (spots_in_group spots s q n) refl both.1 in
      let parts = ap sum_rates (map-append (part_of net) old new) in
      let sums = sum_by-append (λ (part : Part). part.sum.rate) (map (part_of net) old) (map (part_of net) new) in
      omega (arith, rest, one, parts, sums)

  -- what is known to come to a queue is no more than its links' load
  known_most : (s q : ℕ) (parts : List Part) → q < queues_of (port_at net s).discipline → (queue_in (arrivals_of net stair s) q).parts ≡ Some parts → sum_rates parts ≤ load_at net s q
  known_most s q parts inside e =
      let groups = groups_at spots (λ n. line_of (stair n)) s q (length net.ports.items + 1) in
      let found = ap (λ (x : Incoming). x.parts) (incoming_found net spots (λ n. line_of (stair n)) s q (queues_of (port_at net s).discipline) inside) in
      let is = parts_some net groups parts (sym found ∙ e) in
      let sums = groups_sum s q (length net.ports.items + 1) is.0 in
      let same = ap sum_rates is.1 in
      let most = apart (rate_at net) (λ i. link_passes s q (slice_get net.links.items i)) (λ k i. is_of_tree_part (routes_of net) s q k i) (length net.ports.items + 1) (length net.links.items)
      (λ k i l h t. passes_of_test i s q k h t) (λ k m i h t u. same_group i s q k m h t u) in
      omega (arith, sums, same, most)

  own_most : (s q : ℕ) → q < queues_of (port_at net s).discipline → rates_of (queue_in (arrivals_of net stair s) q).parts ≤ load_at net s q
  own_most s q inside = by_parts (queue_in (arrivals_of net stair s) q).parts refl
    where
      by_parts : (o : Option (List Part)) → (queue_in (arrivals_of net stair s) q).parts ≡ o → rates_of o ≤ load_at net s q
      by_parts None e = omega arith
      by_parts (Some parts) e = known_most s q parts inside e

  -- ---- of the queues that may be served before, and of all
  abbrev loads_below : (s q : ℕ) → ℕ
  loads_below s q = sum_below (load_at net s) q

  module _ (s q : ℕ) (inside : q < queues_of (port_at net s).discipline) where
    abbrev queues : List Incoming
    queues = arrivals_of net stair s

    count : length queues ≡ queues_of (port_at net s).discipline
    count = incomings_length net spots (λ n. line_of (stair n)) s (queues_of (port_at net s).discipline)

    before_most : rates_of (joined_parts (before q queues)) ≤ loads_below s q
    before_most =
        let long : length (before q queues) ≡ q = let h = inside in let c = count in length-take-le q queues (omega (arith, h, c)) in
        let most = joined_most (before q queues) (load_at net s) (λ i l.
        let less : i < q = omega (arith, l, long) in
        let own = own_most s i (let h = inside in omega (arith, less, h)) in
        let e = ap (λ (x : Incoming). rates_of x.parts) (get_or-take q queues i record { parts = None; longest = 0 } less) in
        omega (arith, own, e)) in
        let same = ap (sum_below (load_at net s)) long in
        omega (arith, most, same)

    behind_most : rates_of (joined_parts (behind q queues)) ≤ sum_below (λ i. load_at net s (suc q + i)) (queues_of (port_at net s).discipline - suc q)
    behind_most =
        let long : length (behind q queues) ≡ length queues - suc q = length-drop (suc q) queues in
        let most = joined_most (behind q queues) (λ i. load_at net s (suc q + i)) (λ i l.
        let own = own_most s (suc q + i) (let c = count in omega (arith, l, long, c)) in
        let e = ap (λ (x : Incoming). rates_of x.parts) (get_or-drop (suc q) queues i record { parts = None; longest = 0 }) in
        omega (arith, own, e)) in
        let same : length (behind q queues) ≡ queues_of (port_at net s).discipline - suc q = let c = count in omega (arith, long, c) in
        let t = ap (sum_below (λ i. load_at net s (suc q + i))) same in
        omega (arith, most, t)

    others_most : rates_of (joined_parts (before q queues ++ behind q queues)) + load_at net s q ≤ loads_below s (queues_of (port_at net s).discipline)
    others_most =
        let two = both_most (joined_parts (before q queues)) (joined_parts (behind q queues)) in
        let e = ap rates_of (parts_append (before q queues) (behind q queues)) in
        let first = before_most in
        let last = behind_most in
        let split = below_split (load_at net s) (suc q) (queues_of (port_at net s).discipline - suc q) in
        let whole : suc q + (queues_of (port_at net s).discipline - suc q) ≡ queues_of (port_at net s).discipline = let h = inside in omega (arith, h) in
        let t = ap (sum_below (load_at net s)) whole in
        omega (arith, two, e, first, last, split, t)

    rates_most : (n : ℕ) → loads_below s n ≤ rates_below net s n
    rates_most n = below_le (load_at net s) (rates_at net s) n (λ k h. let e = rates_are net s k w in omega (arith, e))

    abbrev Slow : Discipline → Service → Type 0
    Slow d own = (service : Service) → IsServiceAt d own queues q service → IsSlow service (queue_in queues q).parts

    abbrev Over : Discipline → ℕ → Type 0
    Over d rate = (rate ≤ rates_of (joined_parts (first_served d q queues))) ⊎ (rate < rates_of (joined_parts (first_served d q queues)) + rates_of (queue_in queues q).parts)

    over_with : (rate first own load : ℕ) → 0 < load → own ≤ load → (rate ≤ first) ⊎ (rate < first + own) → rate < first + load
    over_with rate first own load some most (inl all) = omega (arith, some, all)
    over_with rate first own load some most (inr more) = omega (arith, most, more)

    by_discipline : (d : Discipline) (own : Service) → (port_at net s).discipline ≡ d → 0 < load_at net s q → Slow d own → Over d own.rate → IsMoreThan d own.rate net s q
    by_discipline Fifo own e some slow over =
        let none : rates_of (joined_parts []) ≡ 0 = ap rates_of parts_none in
        let most = own_most s q inside in
        let more = over_with own.rate (rates_of (joined_parts [])) (rates_of (queue_in queues q).parts) (load_at net s q) some most over in
        let is = rates_are net s q w in
        omega (arith, none, more, is)
    by_discipline (Priority n) own e some slow over =
        let most = own_most s q inside in
        let more = over_with own.rate (rates_of (joined_parts (before q queues))) (rates_of (queue_in queues q).parts) (load_at net s q) some most over in
        let first = before_most in
        let all = rates_most (suc q) in
        omega (arith, more, first, all)
    by_discipline (Drr quanta) own e some slow over =
        let most = own_most s q inside in
        let more = over_with own.rate (rates_of (joined_parts (before q queues ++ behind q queues))) (rates_of (queue_in queues q).parts) (load_at net s q) some most over in
        let first = others_most in
        let all = rates_most (length quanta.items) in
        let many = ap (λ x. loads_below s (queues_of x)) e in
        let share = round_robin_share own (get_or quanta.items q 0) (sum quanta.items) (queue_in queues q).longest (longest_frames_of queues) in
        let is = rates_are net s q w in (
          elim (slow share (inl refl)) [
            | inl none ↦ omega (arith, none, some, is)
            | inr less ↦ omega (arith, less, most, is)
          ],
          omega (arith, more, first, all, many),
        )

pub overload_is_load : OverloadIsLoad
overload_is_load net row stair s q w meets inside h some over = record {
  some = some;
  more = by_discipline net w row stair meets s q h (port_at net s).discipline (port_service (port_at net s)) refl (let e = rates_are net s q w in omega (arith, some, e)) over.slow over.load;
}
