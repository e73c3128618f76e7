-- Where a queue has a promise the links that pass it have no greater load than its rate: by induction along an order of the ports in which no
-- link goes back, for then what comes from a port before is no faster than that port.
use Rattle.std.proofs.Common.{◌≡◌, ◌⊎◌, ℕ, zero, suc, ◌<◌, ◌≤◌, ◌+◌, ◌*◌, ◌/◌, ◌-◌, ◌&&◌, Bool, true, false, cond, Option, Some, None, List, length, get_or, map, if◌then◌else◌, refl, sym, ◌∙◌, ap, subst, arith, inl, inr}
use Rattle.std.specs.Prelude.{is_some, slice_get, sum}
use Rattle.std.specs.List.{list_all, sum_by}
use Rattle.std.proofs.lemmas.Bool.{cases_lt}
use Rattle.std.proofs.lemmas.List.{get_or-take, get_or-drop, length-take-le, length-drop}
use Rattle.std.proofs.lemmas.List.Sums.{get_or-le-sum_by}
use Rattle.arrival_lines.specs.declared.grid.Part.{Part}
use Rattle.arrival_lines.specs.declared.grid.Queue.{Queue}
use Rattle.arrival_stairs.specs.declared.stairs.Stair.{Stair}
use Rattle.port_bounds.specs.Incoming.{Incoming, queue_in, joined_parts, before, behind}
use Rattle.port_bounds.specs.Ports.{rate_behind}
use Rattle.port_bounds.specs.StairRows.{IsStairRow}
use Rattle.port_bounds.proofs.Queues.{parts_append}
use Rattle.port_bounds.proofs.StairsHeld.{at_line}
use Rattle.tree_network.specs.Lists.{those}
use Rattle.tree_network.specs.Networks.{IsNetwork, PortIsInRange, GateIsInRange, QuantaAreInRange, port_at, no_port, queues_of}
use Rattle.tree_network.specs.Orders.{GoesTo, IsNetworkOrder, StandsAt}
use Rattle.tree_network.specs.Spots.{spot_at, spots_of, AreSpots}
use Rattle.tree_network.specs.declared.network.Discipline.{Discipline}
use Rattle.tree_network.specs.declared.network.Discipline.TheVariants.{Fifo, Priority, Drr}
use Rattle.tree_network.specs.declared.network.Gate.{Gate}
use Rattle.tree_network.specs.declared.network.Network.{Network}
use Rattle.tree_network.specs.declared.network.Port.{Port}
use Rattle.tree_network.specs.declared.spots.Spot.{Spot}
use Rattle.tree_network.proofs.InRange.{in_range}
use Rattle.tree_bounds.specs.Equations.{MeetsEquations, arrivals_of}
use Rattle.tree_bounds.specs.Groups.{groups_at, part_of, parts_in, spots_in_group, are_bounded}
use Rattle.tree_bounds.specs.Lines.{line_of}
use Rattle.tree_bounds.specs.Tables.{row_in}
use Rattle.tree_bounds.specs.declared.groups.Group.{Group}
use Rattle.tree_bounds.proofs.Bunched.{lines_of_coming}
use Rattle.tree_bounds.proofs.Ranged.{incomings_length}
use Rattle.tree_bounds.proofs.Unknown.{frame_has, in_group}
use Rattle.tree_bounds.specs.guarantee.Loads.{rates_at, rates_below, sum_below, IsMoreThan, LoadAboveRateHasNone}
use Rattle.tree_bounds.proofs.guarantee.Borne.{Bears, IsBorne, row_borne, of_two, joined_carry}
use Rattle.tree_bounds.proofs.guarantee.Gathered.{number_at}
use Rattle.tree_bounds.proofs.guarantee.Held.{incoming_found, longest_in}
use Rattle.tree_bounds.proofs.guarantee.LastSteps.{long_run_rate}
use Rattle.tree_bounds.proofs.guarantee.LinkRates as rates
use Rattle.tree_bounds.proofs.guarantee.LinkRates.{link_passes, rate_at, load_at, rates_are}
use Rattle.tree_bounds.proofs.guarantee.LoadSums.{below_le, below_split, covered, some_passes, those_nothing, sums_list, shares_fit}
use Rattle.tree_bounds.specs.guarantee.Routes.{routes_of}
use Rattle.tree_runs.specs.Parts.{is_of_tree_part}

-- ---- the load is within the rate
abbrev loads_below : Network → (s q : ℕ) → ℕ
loads_below net s q = sum_below (load_at net s) q

most_below : (net : Network) (s : ℕ) → IsNetwork net → (q : ℕ) → rates_below net s q ≤ loads_below net s q
most_below net s w q = below_le (rates_at net s) (load_at net s) q (λ k h. let e = rates_are net s k w in omega (arith, e))

abbrev Fits : Network → Discipline → (rate s q : ℕ) → Type 0
Fits net Fifo rate s q = load_at net s q ≤ rate
Fits net (Priority n) rate s q = loads_below net s (suc q) ≤ rate
Fits net (Drr quanta) rate s q = (load_at net s q ≤ rate * get_or quanta.items q 0 / sum quanta.items) ⊎ (loads_below net s (length quanta.items) ≤ rate)

not_more : (net : Network) (d : Discipline) (rate s q : ℕ) → IsNetwork net → Fits net d rate s q → IsMoreThan d rate net s q → ⊥
not_more net Fifo rate s q w fits more = let own = rates_are net s q w in omega (arith, fits, more, own)
not_more net (Priority n) rate s q w fits more = let all = most_below net s w (suc q) in omega (arith, fits, more, all)
not_more net (Drr quanta) rate s q w (inl fits) more = let own = rates_are net s q w in let m = more.0 in omega (arith, fits, m, own)
not_more net (Drr quanta) rate s q w (inr fits) more = let all = most_below net s w (length quanta.items) in let m = more.1 in omega (arith, fits, m, all)

abbrev rate_of_port : Port → ℕ
rate_of_port port = rate_behind port.gate port.rate

behind_most : (gate : Option Gate) (rate : ℕ) → GateIsInRange gate → rate_behind gate rate ≤ rate
behind_most None rate range = omega arith
behind_most (Some gate) rate range =
    let some = range.0 in
    let less = range.1 in
    let share = shares_fit rate gate.cycle (λ k. gate.slot) 1 (omega (arith, some, less)) (omega (arith, less)) in
    omega (arith, share)

-- ---- of all queues that have a promise the loads together are within the rate
module _ (net : Network) (rate s : ℕ) (live : ℕ → ℕ) (most : (q : ℕ) → live q ≤ load_at net s q) where
  up_to : (n k : ℕ) → k ≤ n → ((q : ℕ) → q < n → 0 < live q → loads_below net s (suc q) ≤ rate) → sum_below live k ≤ rate
  up_to n zero few each = omega arith
  up_to n (suc k) few each = elim (cases_lt 0 (live k)) [
    | inr none ↦ let rest = up_to n k (omega (arith, few)) each in omega (arith, none, rest)
    | inl some ↦
        let all = below_le live (load_at net s) (suc k) (λ q h. most q) in
        let fits = each k (omega (arith, few)) some in
        omega (arith, all, fits)
  ]

  together : (d : Discipline) → QuantaAreInRange d → 1 ≤ queues_of d → ((q : ℕ) → q < queues_of d → 0 < live q → Fits net d rate s q) → sum_below live (queues_of d) ≤ rate
  together Fifo range some each = elim (cases_lt 0 (live 0)) [
    | inr none ↦ omega (arith, none)
    | inl more ↦ let fits = each 0 (omega arith) more in let m = most 0 in omega (arith, fits, m)
  ]
  together (Priority n) range some each = up_to n n (omega arith) each
  together (Drr quanta) range some each = elim (cases_lt rate (loads_below net s (length quanta.items))) [
    | inr fits ↦ let all = below_le live (load_at net s) (length quanta.items) (λ q h. most q) in omega (arith, all, fits)
    | inl over ↦
        let F = sum quanta.items in
        let one = (range 0 0 (omega (arith, some))).0 in
        let among = get_or-le-sum_by (λ (x : ℕ). x) quanta.items 0 0 (omega (arith, some)) in
        let sums = sums_list quanta.items in
        let shares = shares_fit rate F (λ q. get_or quanta.items q 0) (length quanta.items) (omega (arith, one, among)) (omega (arith, sums)) in
        let all = below_le live (λ q. rate * get_or quanta.items q 0 / F) (length quanta.items) (λ q h. elim (cases_lt 0 (live q)) [
          | inr none ↦ omega (arith, none)
          | inl more ↦ elim (each q h more) [
            | inl share ↦ let m = most q in omega (arith, m, share)
            | inr fits ↦ absurd (omega (arith, fits, over))
          ]
        ]) in
        omega (arith, shares, all)
  ]

-- ---- parts that are known are those of the groups
pub parts_some : (net : Network) (groups : List Group) (parts : List Part) → parts_in net groups ≡ Some parts → (list_all (λ g. g.known) groups ≡ true) × (map (part_of net) groups ≡ parts)
parts_some net groups parts e = by_test (list_all (λ (g : Group). g.known) groups) (are_bounded (map (part_of net) groups)) e
  where
    by_test : (a b : Bool) → (if a && b then Some (map (part_of net) groups) else None) ≡ Some parts → (a ≡ true) × (map (part_of net) groups ≡ parts)
    by_test true true f = (refl, let g : Some (map (part_of net) groups) ≡ Some parts = f in cc)
    by_test true false f = absurd (let g : None ≡ Some parts = f in cc)
    by_test false b f = absurd (let g : None ≡ Some parts = f in cc)

-- ---- along the trees
module _ (net : Network) (w : IsNetwork net) (row : ℕ → ℕ → Option Queue) (stair : ℕ → Option Stair) (meets : MeetsEquations net row stair) where
  abbrev spots : List Spot
  spots = spots_of net

  are : AreSpots net spots
  are = in_range net w

  abbrev queues_at : ℕ → ℕ
  queues_at s = queues_of (port_at net s).discipline

  port_fits : (s : ℕ) → s < length net.ports.items → PortIsInRange (port_at net s)
  port_fits s h = w.ports s no_port h

  -- a queue that a link passes has a longest frame
  some_longest : (s q : ℕ) → q < queues_at s → 0 < load_at net s q → 0 < (queue_in (arrivals_of net stair s) q).longest
  some_longest s q inside load =
      let i = some_passes (rate_at net) (λ j. link_passes s q (slice_get net.links.items j)) (length net.links.items) load in
      let x = rates.spot_there net w row stair meets i.0 s q i.1 i.2 in
      let at = x.1 in
      let n = number_at net s i.0 in
      let port = ap (λ (y : Spot). y.port) at.is ∙ at.port in
      let queue = ap (λ (y : Spot). y.queue) at.is ∙ at.queue in
      let spot = are.each n at.few in
      let most = spot.source in
      let frame = spot.some_frame in
      let there = in_group spots (λ m. line_of (stair m)) s q n at.few port queue in
      let own = frame_has spots (spots_in_group spots s q (spot_at spots n).source) n there in
      let longest = longest_in spots (λ m. line_of (stair m)) s q (spot_at spots n).source (length net.ports.items + 1) (omega (arith, most)) in
      let found = ap (λ (y : Incoming). y.longest) (incoming_found net spots (λ m. line_of (stair m)) s q (queues_at s) inside) in
      omega (arith, frame, own, longest, found)

  borne : (s q : ℕ) (queue : Queue) → s < length net.ports.items → q < queues_at s → 0 < load_at net s q → row s q ≡ Some queue → IsBorne (port_at net s) (arrivals_of net stair s) q
  borne s q queue inside h load e =
      let at = meets.rows s q inside h in
      let lines = lines_of_coming net spots stair s (queues_at s) at.queues at.are in
      let some = subst (λ (xs : List Incoming). 0 < (queue_in xs q).longest) (sym lines) (some_longest s q h load) in
      let longest = ap (λ (x : Incoming). x.longest) (at_line at.queues q) in
      subst (λ (xs : List Incoming). IsBorne (port_at net s) xs q) lines
      (row_borne (port_at net s) at.queues q queue (omega (arith, some, longest)) (subst (λ r. IsStairRow (port_at net s) at.queues q r) e at.row))

  -- ---- at a port to which nothing comes faster than the ports before
  abbrev ArePacedAt : ℕ → Type 0
  ArePacedAt s = (q : ℕ) → rates.ArePaced net w row stair meets s q

  part_carries : (s q : ℕ) (parts : List Part) → ArePacedAt s → q < queues_at s → (queue_in (arrivals_of net stair s) q).parts ≡ Some parts → load_at net s q ≤ sum_by long_run_rate parts
  part_carries s q parts paced inside e =
      let groups = groups_at spots (λ n. line_of (stair n)) s q (length net.ports.items + 1) in
      let found = ap (λ (x : Incoming). x.parts) (incoming_found net spots (λ n. line_of (stair n)) s q (queues_at s) inside) in
      let is = parts_some net groups parts (sym found ∙ e) in
      let carried = rates.load_carried net w row stair meets s q (paced q) is.0 in
      let same = ap (sum_by long_run_rate) is.1 in
      omega (arith, carried, same)

  fits_at : (s q : ℕ) (queue : Queue) → ArePacedAt s → s < length net.ports.items → q < queues_at s → 0 < load_at net s q → row s q ≡ Some queue
      → Fits net (port_at net s).discipline (rate_of_port (port_at net s)) s q
  fits_at s q queue paced inside h load e = by_discipline (port_at net s).discipline refl is.bears
    where
      queues : List Incoming
      queues = arrivals_of net stair s

      count : length queues ≡ queues_at s
      count = incomings_length net spots (λ n. line_of (stair n)) s (queues_at s)

      is : IsBorne (port_at net s) (arrivals_of net stair s) q
      is = borne s q queue inside h load e

      rate : ℕ
      rate = rate_of_port (port_at net s)

      own : load_at net s q ≤ sum_by long_run_rate is.parts
      own = part_carries s q is.parts paced h is.are

      first_carry : (all : List Part) → joined_parts (before q queues) ≡ Some all → loads_below net s q ≤ sum_by long_run_rate all
      first_carry all known =
          let long : length (before q queues) ≡ q = length-take-le q queues (omega (arith, h, count)) in
          let sums = joined_carry (before q queues) (load_at net s) all known (λ i parts l k.
          let less : i < q = omega (arith, l, long) in
          part_carries s i parts paced (omega (arith, less, h)) (ap (λ (x : Incoming). x.parts) (sym (get_or-take q queues i record { parts = None; longest = 0 } less)) ∙ k)) in
          let s = ap (sum_below (load_at net s)) long in
          omega (arith, sums, s)

      last_carry : (all : List Part) → joined_parts (behind q queues) ≡ Some all → sum_below (λ i. load_at net s (suc q + i)) (queues_at s - suc q) ≤ sum_by long_run_rate all
      last_carry all known =
          let long : length (behind q queues) ≡ length queues - suc q = length-drop (suc q) queues in
          let sums = joined_carry (behind q queues) (λ i. load_at net s (suc q + i)) all known (λ i parts l k.
          part_carries s (suc q + i) parts paced (omega (arith, l, long, count, h)) (ap (λ (x : Incoming). x.parts) (sym (get_or-drop (suc q) queues i record { parts = None; longest = 0 })) ∙ k)) in
          let same : length (behind q queues) ≡ queues_at s - suc q = omega (arith, long, count) in
          let s = ap (sum_below (λ i. load_at net s (suc q + i))) same in
          omega (arith, sums, s)

      by_discipline : (d : Discipline) → (port_at net s).discipline ≡ d → Bears d rate (sum_by long_run_rate is.parts) queues q → Fits net d rate s q
      by_discipline Fifo f bears = let l = own in omega (arith, l, bears)
      by_discipline (Priority n) f bears =
          let first = first_carry bears.0 bears.1 in
          let l = own in
          let all = bears.2 in
          omega (arith, first, l, all)
      by_discipline (Drr quanta) f (inl share) = inl (let l = own in omega (arith, l, share))
      by_discipline (Drr quanta) f (inr bears) =
          let two = of_two (joined_parts (before q queues)) (joined_parts (behind q queues)) bears.0 (sym (parts_append (before q queues) (behind q queues)) ∙ bears.1) in
          let first = first_carry two.first two.first_is in
          let last = last_carry two.last two.last_is in
          let l = own in
          let all = bears.2 in
          let sums = two.load in
          let many : queues_at s ≡ length quanta.items = ap queues_of f in
          let split = below_split (load_at net s) (suc q) (queues_at s - suc q) in
          let whole : suc q + (queues_at s - suc q) ≡ length quanta.items = let i = h in omega (arith, i, many) in
          let t = ap (sum_below (load_at net s)) whole in
          inr (omega (arith, first, last, l, all, sums, split, t))

  -- ---- what a port hands on is no faster than it
  abbrev FitsAll : ℕ → Type 0
  FitsAll s = (q : ℕ) (queue : Queue) → q < queues_at s → 0 < load_at net s q → row s q ≡ Some queue → Fits net (port_at net s).discipline (rate_of_port (port_at net s)) s q

  abbrev live : (p q : ℕ) → ℕ
  live p q = cond (is_some (row p q)) (load_at net p q) 0

  live_most : (p q : ℕ) → live p q ≤ load_at net p q
  live_most p q = by_row (is_some (row p q))
    where
      by_row : (b : Bool) → cond b (load_at net p q) 0 ≤ load_at net p q
      by_row true = omega arith
      by_row false = omega arith

  live_fits : (p : ℕ) → p < length net.ports.items → FitsAll p → sum_below (live p) (queues_at p) ≤ rate_of_port (port_at net p)
  live_fits p h all =
      let port = port_fits p h in
      together net (rate_of_port (port_at net p)) p (live p) (live_most p) (port_at net p).discipline port.quanta port.some_queue (λ q l some. by_row q l (row p q) refl some)
    where
      by_row : (q : ℕ) → q < queues_at p → (o : Option Queue) → row p q ≡ o → 0 < live p q → Fits net (port_at net p).discipline (rate_of_port (port_at net p)) p q
      by_row q l None e some = absurd (let f = ap (λ o. cond (is_some o) (load_at net p q) 0) e in omega (arith, f, some))
      by_row q l (Some queue) e some = all q queue l (let f = ap (λ o. cond (is_some o) (load_at net p q) 0) e in omega (arith, f, some)) e

  handed_on : (p s q : ℕ) → p < length net.ports.items → FitsAll p → list_all (λ n. is_some (line_of (stair n))) (spots_in_group spots s q (suc p)) ≡ true
      → rates.brought net w row stair meets s q (suc p) ≤ (port_at net p).pace
  handed_on p s q h all known =
      let cover = covered (rate_at net) (is_of_tree_part (routes_of net) s q (suc p)) (λ b i. is_some (row p b) && link_passes p b (slice_get net.links.items i)) (queues_at p) (length net.links.items)
      (λ i l e. rates.comes_live net w row stair meets i s q p l e known) in
      let each = below_le (λ b. sum_by (rate_at net) (those (λ i. is_some (row p b) && link_passes p b (slice_get net.links.items i)) (length net.links.items))) (live p) (queues_at p)
      (λ b l. by_row b (is_some (row p b))) in
      let fits = live_fits p h all in
      let port = port_fits p h in
      let most = behind_most (port_at net p).gate (port_at net p).rate port.gate in
      let pace = port.rate in
      omega (arith, cover, each, fits, most, pace)
    where
      by_row : (b : ℕ) (c : Bool) → sum_by (rate_at net) (those (λ i. c && link_passes p b (slice_get net.links.items i)) (length net.links.items)) ≤ cond c (load_at net p b) 0
      by_row b true = omega arith
      by_row b false = let none = those_nothing (rate_at net) (λ i. false && link_passes p b (slice_get net.links.items i)) (length net.links.items) (λ k l. refl) in omega (arith, none)

  -- ---- by induction
  module _ (order : List ℕ) (forward : IsNetworkOrder net order) where
    abbrev FitBelow : ℕ → Type 0
    FitBelow k = (s i : ℕ) → StandsAt order s i → i < k → s < length net.ports.items → FitsAll s

    one_fits : (k s i : ℕ) → FitBelow k → StandsAt order s i → i < suc k → s < length net.ports.items → FitsAll s
    one_fits k s i below stands early inside q queue h load e = fits_at s q queue (λ p. record { pace = paced p }) inside h load e
      where
        paced : (r p : ℕ) → p < length net.ports.items → list_all (λ n. is_some (line_of (stair n))) (spots_in_group spots s r (suc p)) ≡ true
            → rates.brought net w row stair meets s r (suc p) ≤ (port_at net p).pace
        paced r p few known = elim (cases_lt 0 (rates.brought net w row stair meets s r (suc p))) [
          | inr none ↦ omega (arith, none)
          | inl some ↦
              let i = some_passes (rate_at net) (is_of_tree_part (routes_of net) s r (suc p)) (length net.links.items) some in
              handed_on p s r few (earlier i.0 (rates.spot_of_test net w row stair meets i.0 s r (suc p) i.1 i.2)) known
        ]
          where
            earlier : (j : ℕ) → rates.IsSpotAt net w row stair meets j s r (suc p) → FitsAll p
            earlier j at =
                let place = forward.every p few in
                let all = forward.count in
                let P : ℕ → Type 0 = λ m. GoesTo spots m (get_or order i 0) in
                let Q : ℕ → Type 0 = λ m. GoesTo spots p m in
                let goes : GoesTo spots p s = record {
                  spot = number_at net s j;
                  inside = at.few;
                  from = ap (λ (x : Spot). x.source) at.is ∙ at.source;
                  to = ap (λ (x : Spot). x.port) at.is ∙ at.port;
                } in
                let there = place.1.inside in
                let here = stands.inside in
                let less = forward.forward place.0 i (omega (arith, there, all)) (omega (arith, here, all)) (subst P (sym place.1.is) (subst Q (sym stands.is) goes)) in
                below p place.0 place.1 (omega (arith, less, early)) few

    fit_below : (k : ℕ) → FitBelow k
    fit_below zero = λ s i stands early inside. absurd (omega (arith, early))
    fit_below (suc k) = λ s i stands early inside. one_fits k s i (fit_below k) stands early inside

    all_fit : (s : ℕ) → s < length net.ports.items → FitsAll s
    all_fit s inside = let place = forward.every s inside in fit_below (suc place.0) s place.0 place.1 (omega arith) inside

pub load_above_rate_has_none : LoadAboveRateHasNone
load_above_rate_has_none net table s q w is inside h over = by_row (row_in table s q) refl
  where
    by_row : (o : Option Queue) → row_in table s q ≡ o → o ≡ None
    by_row None e = refl
    by_row (Some queue) e =
        let some : 0 < load_at net s q = let own = rates_are net s q w in let l = over.some in omega (arith, own, l) in
        absurd (not_more net (port_at net s).discipline (rate_of_port (port_at net s)) s q w
        (all_fit net w (row_in table) is.stair is.equations is.order is.goes_forward s inside q queue h some e) over.more)
