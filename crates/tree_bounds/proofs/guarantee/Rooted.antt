-- Where a queue has no promise there is a root of it: by induction along an order of the ports in which no link goes back.
use Rattle.std.proofs.Common.{◌≡◌, ◌⊎◌, ℕ, zero, suc, ◌<◌, ◌≤◌, ◌+◌, ◌-◌, ◌*◌, ◌^◌, true, false, Option, Some, None, List, [], ◌∷◌, ◌++◌, length, get_or, map, refl, sym, ◌∙◌, ap, ap₂, subst, arith, inl, inr, length-append}
use Rattle.std.specs.Prelude.{slice_get, is_some}
use Rattle.std.specs.List.{Contains}
use Rattle.std.specs.Option.{option_map}
use Rattle.std.proofs.lemmas.Bool.{cases_lt}
use Rattle.std.proofs.lemmas.List.{get_or-take, get_or-drop, length-take-le, length-drop, get_or_append_left, get_or-append-add}
use Rattle.std.proofs.lemmas.Option.{get_or_from_slice_get, slice_get_cases}
use Rattle.arrival_lines.specs.declared.grid.Line.{Line}
use Rattle.arrival_lines.specs.declared.grid.Part.{Part}
use Rattle.arrival_lines.specs.declared.grid.Queue.{Queue}
use Rattle.arrival_stairs.specs.BelowLines.{stair_burst, stair_rate}
use Rattle.arrival_stairs.specs.Views.{bunches}
use Rattle.arrival_stairs.specs.declared.stairs.Bundle.{Bundle}
use Rattle.arrival_stairs.specs.declared.stairs.Stair.{Stair}
use Rattle.port_bounds.specs.Incoming.{Incoming, queue_in, both, joined_parts, before, behind}
use Rattle.port_bounds.proofs.Queues.{parts_cons, parts_none}
use Rattle.port_bounds.specs.StairsIncoming.{stairs_at}
use Rattle.port_bounds.specs.StairRows.{IsStairRowBy}
use Rattle.tree_network.specs.Networks.{IsNetwork, IsLink, port_at, queues_of, longest_time}
use Rattle.tree_network.specs.declared.network.Discipline.{Discipline}
use Rattle.tree_network.specs.declared.network.Discipline.TheVariants.{Fifo, Priority, Drr}
use Rattle.tree_network.specs.declared.network.Link.{Link}
use Rattle.tree_network.specs.declared.network.Network.{Network}
use Rattle.tree_network.specs.declared.spots.Spot.{Spot}
use Rattle.tree_network.specs.Orders.{GoesTo, IsNetworkOrder, StandsAt}
use Rattle.tree_network.specs.Spots.{spot_at, spots_of, AreSpots, ComesFrom, IsSpot}
use Rattle.tree_network.proofs.InRange.{in_range}
use Rattle.tree_bounds.specs.Bunches.{Arriving, IsRowOf, arriving_at, arriving_of, bunch_of_group}
use Rattle.tree_bounds.specs.Equations.{MeetsEquations, arrivals_of, comes_to}
use Rattle.tree_bounds.specs.Groups.{spots_in_group, groups_at, parts_in}
use Rattle.tree_bounds.specs.Lines.{line_of}
use Rattle.tree_bounds.specs.Stairs.{first_stair_of, later_stair, stair_within}
use Rattle.tree_bounds.specs.Tables.{row_in}
use Rattle.tree_bounds.proofs.InLimits.{queue_arriving}
use Rattle.tree_bounds.proofs.LineLimits as LineLimits
use Rattle.tree_bounds.proofs.Onwards as Onwards
use Rattle.tree_bounds.proofs.Ranged.{incomings_length}
use Rattle.tree_bounds.proofs.Unknown.{frame_has, in_group, none_unknown, why_none}
use Rattle.tree_bounds.specs.guarantee.Causes.{IsCause, first_served}
use Rattle.tree_bounds.specs.guarantee.Causes.IsCause.{unbounded, unbounded_before, overloaded, long}
use Rattle.tree_bounds.specs.guarantee.Roots.{CountsAt, HasRoot, IsAt, NoneHasARoot, PassesLimit, queue_before}
use Rattle.tree_bounds.specs.guarantee.Roots.HasRoot.{by_load, by_delay, by_limit, by_earlier}
use Rattle.tree_bounds.specs.guarantee.Roots.PassesLimit.{jitter, line, together}
use Rattle.tree_bounds.proofs.guarantee.Caused.{CausedBy, caused}
use Rattle.tree_bounds.proofs.guarantee.Held.{incoming_found, longest_in}

-- ---- queues of which one is unbounded
abbrev no_part : List Part
no_part = []

record NoParts (queues : List Incoming) : Type 0 where
  place : ℕ
  inside : place < length queues
  none : (queue_in queues place).parts ≡ None

joined_none : (queues : List Incoming) → joined_parts queues ≡ None → NoParts queues
joined_none [] e = absurd (let f : Some no_part ≡ None = sym parts_none ∙ e in cc)
joined_none (x ∷ xs) e = by_first (λ f. joined_none xs f) x.parts refl (sym (parts_cons x xs) ∙ e)
  where
    by_first : (joined_parts xs ≡ None → NoParts xs) → (o : Option (List Part)) → x.parts ≡ o → both x.parts (joined_parts xs) ≡ None → NoParts (x ∷ xs)
    by_first rest None f g = record { place = 0; inside = omega arith; none = f }
    by_first rest (Some parts) f g = by_rest (joined_parts xs) refl (sym (ap (λ o. both o (joined_parts xs)) f) ∙ g)
      where
        by_rest : (o : Option (List Part)) → joined_parts xs ≡ o → both (Some parts) (joined_parts xs) ≡ None → NoParts (x ∷ xs)
        by_rest None h w = let later = rest h in record { place = suc later.place; inside = let l = later.inside in omega (arith, l); none = later.none }
        by_rest (Some more) h w = absurd (let l : Some (parts ++ more) ≡ None = sym (ap (both (Some parts)) h) ∙ w in cc)

-- it counts at queue q
record NoPartsFirst (d : Discipline) (queues : List Incoming) (q : ℕ) : Type 0 where
  place : ℕ
  inside : place < length queues
  counts : CountsAt d place q
  none : (queue_in queues place).parts ≡ None

none_before : (queues : List Incoming) (q : ℕ) → q < length queues → NoParts (before q queues) → (i : ℕ) × (i < q) × ((queue_in queues i).parts ≡ None)
none_before queues q h w =
    let less : w.place < q = let l = w.inside in let c = length-take-le q queues (omega (arith, h)) in omega (arith, l, c) in
    (w.place, less, ap (λ (x : Incoming). x.parts) (sym (get_or-take q queues w.place record { parts = None; longest = 0 } less)) ∙ w.none)

none_behind : (queues : List Incoming) (q : ℕ) → NoParts (behind q queues) → (i : ℕ) × (i < length queues) × ((queue_in queues i).parts ≡ None)
none_behind queues q w =
    let l = w.inside in
    let c = length-drop (suc q) queues in
    (suc q + w.place, omega (arith, l, c), ap (λ (x : Incoming). x.parts) (sym (get_or-drop (suc q) queues w.place record { parts = None; longest = 0 })) ∙ w.none)

none_either : (xs ys : List Incoming) → NoParts (xs ++ ys) → NoParts xs ⊎ NoParts ys
none_either xs ys w = elim (cases_lt w.place (length xs)) [
  | inl left ↦
      inl record {
        place = w.place;
        inside = left;
        none = ap (λ (x : Incoming). x.parts) (sym (get_or_append_left xs ys record { parts = None; longest = 0 } w.place left)) ∙ w.none;
      }
  | inr right ↦ inr (later (w.place - length xs) (omega (arith, right)))
]
  where
    later : (i : ℕ) → length xs + i ≡ w.place → NoParts ys
    later i e =
        let all = length-append xs ys in
        let l = w.inside in
        let P : ℕ → Type 0 = λ n. (queue_in (xs ++ ys) n).parts ≡ None in
        record {
          place = i;
          inside = omega (arith, all, l, e);
          none = ap (λ (x : Incoming). x.parts) (sym (get_or-append-add xs ys i record { parts = None; longest = 0 })) ∙ subst P (sym e) w.none;
        }

none_first : (d : Discipline) (queues : List Incoming) (q : ℕ) → q < length queues → joined_parts (first_served d q queues) ≡ None → NoPartsFirst d queues q
none_first Fifo queues q h e = absurd (let f : Some no_part ≡ None = sym parts_none ∙ e in cc)
none_first (Priority n) queues q h e =
    let w = none_before queues q h (joined_none (before q queues) e) in
    record { place = w.0; inside = let l = w.1 in omega (arith, l, h); counts = let l = w.1 in omega (arith, l); none = w.2 }
none_first (Drr quanta) queues q h e = elim (none_either (before q queues) (behind q queues) (joined_none (before q queues ++ behind q queues) e)) [
  | inl first ↦
      let w = none_before queues q h first in
      record { place = w.0; inside = let l = w.1 in omega (arith, l, h); counts = tt; none = w.2 }
  | inr last ↦ let w = none_behind queues q last in record { place = w.0; inside = w.1; counts = tt; none = w.2 }
]

own_counts : (d : Discipline) (q : ℕ) → CountsAt d q q
own_counts Fifo q = refl
own_counts (Priority n) q = omega arith
own_counts (Drr quanta) q = tt

-- ---- stairs and lines that are none
line_none : (own : Stair) → is_some (line_of (Some own)) ≡ false → (2 ^ 58 ≤ stair_burst own) ⊎ (2 ^ 64 ≤ stair_rate own)
line_none own e = elim (cases_lt (stair_burst own) (2 ^ 58)) [
  | inr much ↦ inl much
  | inl low ↦ elim (cases_lt (stair_rate own) (2 ^ 64)) [
    | inr fast ↦ inr fast
    | inl slow ↦
        let is = LineLimits.within_short record { burst = stair_burst own; rate = stair_rate own } low slow in
        absurd (let f : true ≡ false = ap (λ (o : Option Line). is_some o) is ∙ e in cc)
  ]
]

stair_none : (frame gap early : ℕ) → stair_within frame gap early ≡ None → 2 ^ 62 ≤ early
stair_none frame gap early e = elim (cases_lt early (2 ^ 62)) [
  | inr late ↦ late
  | inl soon ↦
      let is = Onwards.within_short record { frame = frame; gap = gap; jitter = early } soon in
      absurd (let f : Some record { frame = frame; gap = gap; jitter = early } ≡ None = is ∙ e in cc)
]

soon_enough : (early : ℕ) → early ≤ longest_time → early < 2 ^ 62
unfolding longest_time
soon_enough early h = omega (arith, h)

-- each link begins with a stair
begins_known : (net : Network) (i : ℕ) → IsNetwork net → i < length net.links.items → first_stair_of (slice_get net.links.items i) ≡ None → ⊥
begins_known net i w h none = by_link (slice_get net.links.items i) refl
  where
    by_link : (o : Option Link) → slice_get net.links.items i ≡ o → ⊥
    by_link None e =
        let past = slice_get_cases net.links.items i in
        elim past.1 [
          | inl found ↦ absurd (let f : None ≡ Some found.0 = sym e ∙ found.2 in cc)
          | inr over ↦ absurd (omega (arith, over.0, h))
        ]
    by_link (Some link) e =
        let is = get_or_from_slice_get net.links.items i link link e in
        let L : Link → Type 0 = λ x. IsLink net x in
        let own = subst L is (w.links i link h) in
        let late = stair_none (link.frame * 1024) link.gap link.jitter (sym (ap first_stair_of e) ∙ none) in
        let soon = soon_enough link.jitter own.jitter in
        absurd (omega (arith, late, soon))

-- ---- along the trees
module _ (net : Network) (row : ℕ → ℕ → Option Queue) (stair : ℕ → Option Stair) (w : IsNetwork net) (equations : MeetsEquations net row stair) where
  abbrev spots : List Spot
  spots = spots_of net

  are : AreSpots net spots
  are = in_range net w

  -- a queue to which a link comes of which nothing is known has no promise
  no_promise : (a b m : ℕ) → IsAt net a b m → stair m ≡ None → row a b ≡ None
  no_promise a b m at none = by_row (stairs_at found.queues b).longest (stairs_at found.queues b).bundles longest bundles found.row
    where
      spot : IsSpot net spots m (spot_at spots m)
      spot = are.each m at.inside

      a_inside : a < length net.ports.items
      a_inside = let l = spot.port in let e = at.port in omega (arith, l, e)

      b_inside : b < queues_of (port_at net a).discipline
      b_inside =
          let P : ℕ → Type 0 = λ n. (spot_at spots m).queue < queues_of (port_at net n).discipline in
          let l = subst P at.port spot.queue in
          let e = at.queue in
          omega (arith, l, e)

      found : IsRowOf (port_at net a) (comes_to net stair a) b (row a b)
      found = equations.rows a b a_inside b_inside

      arriving : arriving_of (stairs_at found.queues b) ≡ arriving_at net spots stair a b
      arriving = queue_arriving net spots stair a (queues_of (port_at net a).discipline) b found.queues found.are b_inside

      contained : Contains (spots_in_group spots a b (spot_at spots m).source) m
      contained = in_group spots (λ n. line_of (stair n)) a b m at.inside at.port at.queue

      few : (spot_at spots m).source < length net.ports.items + 1
      few = let l = spot.source in omega (arith, l)

      no_parts : parts_in net (groups_at spots (λ n. line_of (stair n)) a b (length net.ports.items + 1)) ≡ None
      no_parts = none_unknown net spots (λ n. line_of (stair n)) a b m at.inside at.port at.queue few (ap (λ o. is_some (line_of o)) none)

      bundles : (stairs_at found.queues b).bundles ≡ None
      bundles = by_bundles (stairs_at found.queues b).bundles (ap (λ (x : Arriving). x.bunches) arriving ∙ ap (option_map (λ (parts : List Part). map (bunch_of_group net spots stair a b) (groups_at spots (λ n. line_of (stair n)) a b (length net.ports.items + 1)))) no_parts)
        where
          by_bundles : (o : Option (List Bundle)) → option_map bunches o ≡ None → o ≡ None
          by_bundles None e = refl
          by_bundles (Some bs) e = absurd (let f : Some (bunches bs) ≡ None = e in cc)

      longest : 1 ≤ (stairs_at found.queues b).longest
      longest =
          let e = ap (λ (x : Arriving). x.longest) arriving in
          let some = spot.some_frame in
          let own = frame_has spots (spots_in_group spots a b (spot_at spots m).source) m contained in
          let most = longest_in spots (λ n. line_of (stair n)) a b (spot_at spots m).source (length net.ports.items + 1) few in
          omega (arith, e, some, own, most)

      by_row : (l : ℕ) (o : Option (List Bundle)) → 1 ≤ l → o ≡ None → IsStairRowBy (port_at net a) found.queues b l o (row a b) → row a b ≡ None
      by_row zero o some e r = absurd (omega (arith, some))
      by_row (suc l) None some e r = r
      by_row (suc l) (Some bs) some e r = absurd (let f : Some bs ≡ None = e in cc)

  -- ---- why a spot has no line: a limit, or the queue before it has no promise
  record ComesUnknown (s p : ℕ) : Type 0 where
    number : ℕ
    port : ℕ
    at : IsAt net s p number
    source : (spot_at spots number).source ≡ suc port
    none : row port (queue_before net number) ≡ None

  by_spot : (s p n : ℕ) → IsAt net s p n → is_some (line_of (stair n)) ≡ false → PassesLimit net row stair s p ⊎ ComesUnknown s p
  by_spot s p n at unknown = by_stair (stair n) refl
    where
      spot : IsSpot net spots n (spot_at spots n)
      spot = are.each n at.inside

      later : (a : ℕ) → (spot_at spots n).source ≡ suc a → later_stair (stair (spot_at spots n).from) (row a (queue_before net n)) ≡ None
          → PassesLimit net row stair s p ⊎ ComesUnknown s p
      later a e none = by_before (stair (spot_at spots n).from) (row a (queue_before net n)) refl refl
        where
          from : IsAt net a (queue_before net n) (spot_at spots n).from
          from =
              let P : ℕ → Type 0 = λ k. ComesFrom spots (spot_at spots n) n k in
              let comes = subst P e spot.comes in
              record {
                inside = let early = comes.0 in let h = at.inside in omega (arith, early, h);
                port = comes.1;
                queue = refl;
              }

          by_before : (o : Option Stair) (r : Option Queue) → stair (spot_at spots n).from ≡ o → row a (queue_before net n) ≡ r
              → PassesLimit net row stair s p ⊎ ComesUnknown s p
          by_before None r f g = inr record { number = n; port = a; at = at; source = e; none = no_promise a (queue_before net n) (spot_at spots n).from from f }
          by_before (Some own) None f g = inr record { number = n; port = a; at = at; source = e; none = g }
          by_before (Some own) (Some queue) f g =
              let is = sym (ap₂ later_stair f g) ∙ none in
              inl (jitter n a own queue at e f g (stair_none own.frame own.gap (own.jitter + queue.delay) is))

      by_source : (k : ℕ) → (spot_at spots n).source ≡ k → stair n ≡ None → PassesLimit net row stair s p ⊎ ComesUnknown s p
      by_source zero e none = absurd (begins_known net (spot_at spots n).link w spot.link (sym (equations.begins n at.inside e) ∙ none))
      by_source (suc a) e none = later a e (sym (equations.goes_on n a at.inside e) ∙ none)

      by_stair : (o : Option Stair) → stair n ≡ o → PassesLimit net row stair s p ⊎ ComesUnknown s p
      by_stair (Some own) e = inl (line n own at e (line_none own (sym (ap (λ o. is_some (line_of o)) e) ∙ unknown)))
      by_stair None e = by_source (spot_at spots n).source refl e

  by_parts : (s p : ℕ) → parts_in net (groups_at spots (λ n. line_of (stair n)) s p (length net.ports.items + 1)) ≡ None
      → PassesLimit net row stair s p ⊎ ComesUnknown s p
  by_parts s p none = elim (why_none net spots (λ n. line_of (stair n)) s p none) [
    | inr over ↦ inl (together over)
    | inl one ↦ by_spot s p one.number record { inside = one.inside; port = one.port; queue = one.queue } one.none
  ]

  -- ---- by induction
  module _ (order : List ℕ) (forward : IsNetworkOrder net order) where
    abbrev RootsBelow : ℕ → Type 0
    RootsBelow k = (s q i : ℕ) → StandsAt order s i → i < k → s < length net.ports.items → q < queues_of (port_at net s).discipline → row s q ≡ None
        → HasRoot net row stair s q

    one_root : (k s q i : ℕ) → RootsBelow k → StandsAt order s i → i < suc k → s < length net.ports.items → q < queues_of (port_at net s).discipline
        → row s q ≡ None → HasRoot net row stair s q
    one_root k s q i below stands early inside queue none = by_cause by.cause
      where
        count : ℕ
        count = queues_of (port_at net s).discipline

        by : CausedBy net stair s q
        by = caused net row stair s q equations inside queue none

        earlier : (p : ℕ) → CountsAt (port_at net s).discipline p q → ComesUnknown s p → HasRoot net row stair s q
        earlier p counts c =
            let spot = are.each c.number c.at.inside in
            let few : c.port < length net.ports.items = let l = spot.source in let e = c.source in omega (arith, l, e) in
            let place = forward.every c.port few in
            let all = forward.count in
            let P : ℕ → Type 0 = λ m. GoesTo spots m (get_or order i 0) in
            let Q : ℕ → Type 0 = λ m. GoesTo spots c.port m in
            let goes : GoesTo spots c.port s = record { spot = c.number; inside = c.at.inside; from = c.source; to = c.at.port } in
            let there = place.1.inside in
            let here = stands.inside in
            let less = forward.forward place.0 i (omega (arith, there, all)) (omega (arith, here, all)) (subst P (sym place.1.is) (subst Q (sym stands.is) goes)) in
            let C : ℕ → Type 0 = λ m. ComesFrom spots (spot_at spots c.number) c.number m in
            let comes = subst C c.source spot.comes in
            let from : (spot_at spots c.number).from < length spots = let l = comes.0 in let h = c.at.inside in omega (arith, l, h) in
            let before_spot = are.each (spot_at spots c.number).from from in
            let D : ℕ → Type 0 = λ m. queue_before net c.number < queues_of (port_at net m).discipline in
            by_earlier s q p c.number c.port counts c.at c.source c.none
            (below c.port (queue_before net c.number) place.0 place.1 (omega (arith, less, early)) few (subst D comes.1 before_spot.queue) c.none)

        from_parts : (p : ℕ) → p < count → CountsAt (port_at net s).discipline p q → (queue_in (arrivals_of net stair s) p).parts ≡ None → HasRoot net row stair s q
        from_parts p h counts none_there =
            let is = ap (λ (x : Incoming). x.parts) (incoming_found net spots (λ n. line_of (stair n)) s p count h) in
            elim (by_parts s p (sym is ∙ none_there)) [
              | inl passes ↦ by_limit s q p counts passes
              | inr comes ↦ earlier p counts comes
            ]

        length_is : length (arrivals_of net stair s) ≡ count
        length_is = incomings_length net spots (λ n. line_of (stair n)) s count

        by_cause : IsCause (port_at net s) (arrivals_of net stair s) by.stairs q → HasRoot net row stair s q
        by_cause (unbounded e) = from_parts q queue (own_counts (port_at net s).discipline q) e
        by_cause (unbounded_before e) =
            let first = none_first (port_at net s).discipline (arrivals_of net stair s) q (omega (arith, length_is, queue)) e in
            from_parts first.place (let l = first.inside in omega (arith, l, length_is)) first.counts first.none
        by_cause (overloaded h) = by_load s q h
        by_cause (long h) = by_delay s q by.stairs by.are h

    roots_below : (k : ℕ) → RootsBelow k
    roots_below zero = λ s q i stands early inside queue none. absurd (omega (arith, early))
    roots_below (suc k) = λ s q i stands early inside queue none. one_root k s q i (roots_below k) stands early inside queue none

    has_root : (s q : ℕ) → s < length net.ports.items → q < queues_of (port_at net s).discipline → row s q ≡ None → HasRoot net row stair s q
    has_root s q inside queue none =
        let place = forward.every s inside in
        roots_below (suc place.0) s q place.0 place.1 (omega arith) inside queue none

pub none_has_a_root : NoneHasARoot
none_has_a_root net table s q w is inside queue none = record {
  stair = is.stair;
  equations = is.equations;
  root = has_root net (row_in table) is.stair w is.equations is.order is.goes_forward s q inside queue none;
}
