-- A queue without a number has links, and its root is a load above its rate, a delay or a limit.
use Rattle.std.proofs.Common.{◌≡◌, ℕ, zero, suc, ◌<◌, ◌≤◌, ◌+◌, ◌*◌, ◌^◌, ◌++◌, ◌==◌, ◌&&◌, true, Option, Some, None, List, [], ◌∷◌, length, refl, ap, subst, arith, append-nil}
use Rattle.std.proofs.lemmas.List.{length-map}
use Rattle.std.specs.Prelude.{slice_get}
use Rattle.std.proofs.lemmas.List.Sums.{get_or-le-sum_by}
use Rattle.arrival_lines.proofs.Units.{up_covers}
use Rattle.arrival_lines.specs.declared.grid.Line.{Line}
use Rattle.arrival_lines.specs.declared.grid.Queue.{Queue}
use Rattle.arrival_stairs.specs.declared.stairs.Bundle.{Bundle}
use Rattle.arrival_stairs.specs.declared.stairs.Stair.{Stair}
use Rattle.port_bounds.specs.StairRows.{IsStairRow, IsStairRowBy}
use Rattle.port_bounds.specs.StairsIncoming.{StairsIn, stairs_at}
use Rattle.tree_network.specs.Lists.{those}
use Rattle.tree_network.specs.Networks.{IsNetwork, port_at, queues_of}
use Rattle.tree_network.specs.Spots.{spot_at, spots_of, AreSpots, ComesFrom}
use Rattle.tree_network.specs.declared.network.Link.{Link}
use Rattle.tree_network.specs.declared.network.Network.{Network}
use Rattle.tree_network.specs.declared.network.Port.{Port}
use Rattle.tree_network.specs.declared.spots.Spot.{Spot}
use Rattle.tree_network.proofs.InRange.{in_range}
use Rattle.tree_network.proofs.Those.{of_both, of_eq, some_if_any, those_has}
use Rattle.tree_runs.specs.Parts.{is_of_tree_part}
use Rattle.tree_bounds.specs.Bunches.{Arriving}
use Rattle.tree_bounds.specs.Equations.{MeetsEquations}
use Rattle.tree_bounds.specs.Groups.{is_in_group, spots_in_group, group_list, groups_at, longest_group}
use Rattle.tree_bounds.specs.declared.groups.Group.{Group}
use Rattle.tree_bounds.specs.Lines.{line_of, rate_of}
use Rattle.tree_bounds.specs.Tables.{row_in}
use Rattle.tree_bounds.proofs.InLimits.{queue_arriving}
use Rattle.tree_bounds.proofs.Unknown.{in_group}
use Rattle.tree_bounds.specs.guarantee.Loads.{rates_at, HasLoadOrLimit, NoneHasALoadOrLimit}
use Rattle.tree_bounds.specs.guarantee.Loads.HasLoadOrLimit.{by_load, by_delay, by_limit, by_earlier}
use Rattle.tree_bounds.specs.guarantee.Roots as roots
use Rattle.tree_bounds.specs.guarantee.Roots.{HasRoot, queue_before}
use Rattle.tree_bounds.specs.guarantee.Routes.{routes_of}
use Rattle.tree_bounds.proofs.guarantee.Gathered.{number_at, gathered}
use Rattle.tree_bounds.proofs.guarantee.LinkRates.{link_at, link_passes, rate_at, rates_are}
use Rattle.tree_bounds.proofs.guarantee.LoadsApart.{passes_of_test, overload_is_load}
use Rattle.tree_bounds.proofs.guarantee.Rooted.{none_has_a_root}

-- a queue without a number has a longest frame
long_if_none : (port : Port) (stairs : List StairsIn) (q : ℕ) → IsStairRow port stairs q None → 0 < (stairs_at stairs q).longest
long_if_none port stairs q row = by_longest (stairs_at stairs q).longest (stairs_at stairs q).bundles row
  where
    by_longest : (longest : ℕ) (bundles : Option (List Bundle)) → IsStairRowBy port stairs q longest bundles None → 0 < longest
    by_longest zero bundles none = absurd (let f : None ≡ Some record { delay = 0; backlog = 0 } = none in cc)
    by_longest (suc longest) bundles is = omega arith

-- a queue with a longest frame has a spot
record HasSpot (spots : List Spot) (s q : ℕ) : Type 0 where
  number : ℕ
  inside : number < length spots
  port : (spot_at spots number).port ≡ s
  queue : (spot_at spots number).queue ≡ q

spot_if_long : (spots : List Spot) (line : ℕ → Option Line) (s q k : ℕ) → 0 < longest_group (groups_at spots line s q k) → HasSpot spots s q
unfolding groups_at longest_group
spot_if_long spots line s q zero h = absurd (omega (arith, h))
spot_if_long spots line s q (suc k) h = by_group (λ l. spot_if_long spots line s q k l) (spots_in_group spots s q k) refl h
  where
    by_group : (0 < longest_group (groups_at spots line s q k) → HasSpot spots s q) → (numbers : List ℕ) → spots_in_group spots s q k ≡ numbers
        → 0 < longest_group (groups_at spots line s q k ++ group_list spots line k numbers) → HasSpot spots s q
    by_group rest [] e l = rest (subst (λ (groups : List Group). 0 < longest_group groups) (append-nil (groups_at spots line s q k)) l)
    by_group rest (x ∷ xs) e l =
        let count = ap length e in
        let n = some_if_any (is_in_group spots s q k) (length spots) (omega (arith, count)) in
        let outer = of_both (((spot_at spots n.0).source == k) && ((spot_at spots n.0).port == s)) ((spot_at spots n.0).queue == q) n.2 in
        let inner = of_both ((spot_at spots n.0).source == k) ((spot_at spots n.0).port == s) outer.0 in
        record { number = n.0; inside = n.1; port = of_eq (spot_at spots n.0).port s inner.1; queue = of_eq (spot_at spots n.0).queue q outer.1 }

module _ (net : Network) (w : IsNetwork net) (row : ℕ → ℕ → Option Queue) (stair : ℕ → Option Stair) (meets : MeetsEquations net row stair) where
  abbrev spots : List Spot
  spots = spots_of net

  are : AreSpots net spots
  are = in_range net w

  -- a link that passes a queue has a rate
  some_rate : (i s q : ℕ) → i < length net.links.items → link_passes s q (slice_get net.links.items i) ≡ true → 0 < rates_at net s q
  some_rate i s q h on =
      let at = link_at net i w h in
      let link = at.link in
      let there = those_has (λ j. link_passes s q (slice_get net.links.items j)) (length net.links.items) i h on in
      let one = get_or-le-sum_by (rate_at net) (those (λ j. link_passes s q (slice_get net.links.items j)) (length net.links.items)) there.0 i there.1 in
      let own = ap (rate_at net) there.2 in
      let found : rate_at net i ≡ rate_of link = ap loads_rate at.found in
      let frame = at.fits.some_frame in
      let gap = at.fits.some_gap in
      let covers = up_covers (link.frame * 1024 * 10 ^ 12) link.gap (rate_of link) (omega (arith, gap)) refl in
      let some = above (link.frame * 1024 * 10 ^ 12) link.gap (rate_of link) (omega (arith, frame)) covers in
      let is = rates_are net s q w in
      omega (arith, one, own, found, some, is)
    where
      loads_rate : Option Link → ℕ
      loads_rate None = 0
      loads_rate (Some x) = rate_of x

      above : (n d q : ℕ) → 0 < n → n ≤ d * q → 0 < q
      above n d zero some h = absurd (omega (arith, some, h))
      above n d (suc q) some h = omega arith

  -- so has a queue at which a spot stands
  spot_rate : (s q n : ℕ) → n < length spots → (spot_at spots n).port ≡ s → (spot_at spots n).queue ≡ q → 0 < rates_at net s q
  spot_rate s q n inside port queue =
      let k = (spot_at spots n).source in
      let there = in_group spots (λ m. line_of (stair m)) s q n inside port queue in
      let test = is_of_tree_part (routes_of net) s q k in
      let long = ap length (gathered net s q k w) in
      let count = length-map (those test (length net.links.items)) (number_at net s) in
      let some = there.1 in
      let i = some_if_any test (length net.links.items) (omega (arith, long, count, some)) in
      some_rate i.0 s q i.1 (passes_of_test net w row stair meets i.0 s q k i.1 i.2)

  -- and so each without a number
  rate_if_none : (s q : ℕ) → s < length net.ports.items → q < queues_of (port_at net s).discipline → row s q ≡ None → 0 < rates_at net s q
  rate_if_none s q inside h none =
      let port = port_at net s in
      let at = meets.rows s q inside h in
      let long = long_if_none port at.queues q (subst (λ r. IsStairRow port at.queues q r) none at.row) in
      let is = ap (λ (x : Arriving). x.longest) (queue_arriving net spots stair s (queues_of port.discipline) q at.queues at.are h) in
      let spot = spot_if_long spots (λ n. line_of (stair n)) s q (length net.ports.items + 1) (omega (arith, long, is)) in
      spot_rate s q spot.number spot.inside spot.port spot.queue

  load_or_limit : (s q : ℕ) → s < length net.ports.items → q < queues_of (port_at net s).discipline → row s q ≡ None → HasRoot net row stair s q
      → HasLoadOrLimit net row stair s q
  load_or_limit _ _ inside h none (roots.HasRoot.by_load s q over) =
      by_load s q (overload_is_load net row stair s q w meets inside h (rate_if_none s q inside h none) over)
  load_or_limit _ _ inside h none (roots.HasRoot.by_delay s q stairs is long) = by_delay s q stairs is long
  load_or_limit _ _ inside h none (roots.HasRoot.by_limit s q p counts passes) = by_limit s q p counts passes
  load_or_limit _ _ inside h none (roots.HasRoot.by_earlier s q p n a counts at source before_none root) =
      let spot = are.each n at.inside in
      let C : ℕ → Type 0 = λ m. ComesFrom spots (spot_at spots n) n m in
      let comes = subst C source spot.comes in
      let from : (spot_at spots n).from < length spots = let l = comes.0 in let k = at.inside in omega (arith, l, k) in
      let before = are.each (spot_at spots n).from from in
      let D : ℕ → Type 0 = λ m. queue_before net n < queues_of (port_at net m).discipline in
      let few : a < length net.ports.items = let l = spot.source in omega (arith, l, source) in
      by_earlier s q p n a counts at source before_none (load_or_limit a (queue_before net n) few (subst D comes.1 before.queue) before_none root)

pub none_has_a_load_or_limit : NoneHasALoadOrLimit
none_has_a_load_or_limit net table s q w is inside h none =
    let found = none_has_a_root net table s q w is inside h none in
    record {
      stair = found.stair;
      equations = found.equations;
      root = load_or_limit net w (row_in table) found.stair found.equations s q inside h none found.root;
    }
