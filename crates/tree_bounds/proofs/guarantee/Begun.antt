-- Links enter by their first stairs, and what comes from a port comes at its pace.
use Rattle.std.proofs.Common.{◌≡◌, ◌≢◌, ℕ, zero, suc, ◌<◌, ◌≤◌, ◌+◌, ◌*◌, ◌^◌, ◌==◌, ◌&&◌, ◌⊎◌, Bool, true, false, Option, Some, None, List, [], ◌∷◌, length, get_or, map, if◌then◌else◌, refl, sym, ◌∙◌, ap, subst, arith, inl, inr}
use Rattle.std.specs.Prelude.{slice_get, nat_lt}
use Rattle.std.proofs.lemmas.Bool.{cases_lt}
use Rattle.std.proofs.lemmas.List.{get_or-map, length-map}
use Rattle.std.proofs.lemmas.Option.{get_or_from_slice_get}
use Rattle.rational.specs.Rational.{ℚ, ◌-ℚ◌}
use Rattle.rational.specs.Extended.{◌≤ₑ◌}
use Rattle.rational.specs.declared.Extended.TheVariants.{Fin}
use Rattle.rational.proofs.ExtendedOrder.{le_ext_trans}
use Rattle.rational.proofs.Laws.{le_refl}
use Rattle.min_plus.specs.Functions.{whole}
use Rattle.min_plus.specs.Formulas.{stair_value}
use Rattle.run_laws.specs.Runs.{SpecRun}
use Rattle.run_laws.specs.RunPremises.{entered_in}
use Rattle.run_laws.specs.Servers as servers
use Rattle.run_laws.specs.Servers.{Server}
use Rattle.run_laws.specs.Routes.{route_of, first_server}
use Rattle.run_laws.specs.Totals.{is_on}
use Rattle.net_laws.specs.paces.Groups.{part_number}
use Rattle.net_laws.specs.Orders.{EntersKept}
use Rattle.tree_runs.specs.Trees.{Tree, tree_of, hops_in, flat, tree_server_before, KeepsTreePremises}
use Rattle.tree_runs.specs.Parts.{is_of_tree_part, AreTreePaced}
use Rattle.tree_runs.proofs.Trees.{live_is, hops_are}
use Rattle.arrival_lines.specs.Grid.{bits, micros}
use Rattle.arrival_lines.proofs.Units.{bits_whole, speed_nonneg}
use Rattle.arrival_stairs.specs.Stairs.{stair_at}
use Rattle.arrival_stairs.specs.declared.stairs.Stair.{Stair}
use Rattle.tree_network.specs.Networks.{IsNetwork, IsLink, HangsBefore, node_at, no_node, port_at, no_port}
use Rattle.tree_network.specs.declared.network.Link.{Link}
use Rattle.tree_network.specs.declared.network.Network.{Network}
use Rattle.tree_network.specs.declared.network.Node.{Node}
use Rattle.tree_network.specs.declared.spots.Spot.{Spot}
use Rattle.tree_network.specs.Spots.{spot_at, spot_of, spots_below, spots_of, source_in}
use Rattle.tree_network.specs.Lists.{those}
use Rattle.tree_network.proofs.Those.{eq_true, eq_false, of_both, those_has}
use Rattle.port_bounds.specs.Ports.{server_of, service_curve}
use Rattle.tree_bounds.specs.Stairs.{first_stair, first_stair_of}
use Rattle.tree_bounds.specs.Groups.{longest_of, spots_in_group}
use Rattle.tree_bounds.specs.guarantee.Routes.{routes_of, tree_of_link, node_of}
use Rattle.tree_bounds.specs.guarantee.Guarantee.{frame_of, frame_in, stair_of, stair_in}
use Rattle.tree_bounds.proofs.guarantee.TreesOf.{tree_at, no_tree}
use Rattle.tree_bounds.proofs.guarantee.Forward.{no_gap, spot_found}
use Rattle.tree_bounds.proofs.guarantee.Gathered.{place_of, number_at, nodes_in, gathered, HasPort, LacksPort, has_or_lacks, in_part}
use Rattle.tree_bounds.proofs.guarantee.Summed.{curve_of, arrival_at, longest_at, rate_at}

-- ---- a live link
pub record IsLiveLink (net : Network) (i : ℕ) : Type 0 where
  pub link : Link
  pub found : slice_get net.links.items i ≡ Some link
  pub few : i < length net.links.items
  pub fits : IsLink net link
  pub tree : tree_of (routes_of net) i ≡ tree_of_link link

pub live_link : (net : Network) (i : ℕ) → IsNetwork net → (tree_of (routes_of net) i).live ≡ true → IsLiveLink net i
live_link net i w live =
    elim (cases_lt i (length net.links.items)) [
      | inl l ↦ by_link (slice_get net.links.items i) refl l
      | inr l ↦ absurd (no_tree net i l live)
    ]
  where
    by_link : (o : Option Link) → slice_get net.links.items i ≡ o → i < length net.links.items → IsLiveLink net i
    by_link None e l = absurd (no_gap net.links.items i e l)
    by_link (Some link) e l =
        let is = get_or_from_slice_get net.links.items i link link e in
        let L : Link → Type 0 = λ x. IsLink net x in
        record { link = link; found = e; few = l; fits = subst L is (w.links i link l); tree = tree_at net i link l (sym is) }

-- ---- the place of a port
place_first : (s : ℕ) (xs : List Node) (k : ℕ) → k < length xs → (get_or xs k no_node).port ≡ s → ((j : ℕ) → j < k → (get_or xs j no_node).port ≢ s) → place_of s xs ≡ k
place_first s [] k h e none = absurd (omega (arith, h))
place_first s (x ∷ xs) zero h e none = let hit = eq_true x.port s e in rw hit refl
place_first s (x ∷ xs) (suc k) h e none =
    let miss = eq_false x.port s (none 0 (omega arith)) in
    let rest = place_first s xs k (omega (arith, h)) e (λ j lt. none (suc j) (omega (arith, lt))) in
    rw miss (ap (λ n. suc n) rest)

pub number_is : (net : Network) (i s k : ℕ) (link : Link) → IsLink net link → slice_get net.links.items i ≡ Some link → k < length link.nodes.items
    → (node_at link k).port ≡ s → number_at net s i ≡ length (spots_below net i) + k
number_is net i s k link fits e h port =
    ap (λ o. length (spots_below net i) + place_of s (nodes_in o)) e
    ∙ ap (λ n. length (spots_below net i) + n) (place_first s link.nodes.items k h port (λ j lt same. fits.once j k lt h (same ∙ sym port)))

-- ---- where links enter
first_is : (link : Link) (xs : List Node) → 1 ≤ length xs → first_server (hops_in (map (node_of link) xs)) ≡ (get_or xs 0 no_node).port
first_is link [] h = absurd (omega (arith, h))
first_is link (x ∷ xs) h = refl

none_before : (from : Option ℕ) → HangsBefore 0 from → from ≡ None
none_before None h = refl
none_before (Some f) h = absurd (omega (arith, h))

-- a stair of frames in grains is that in bits
above_stair : (link : Link) (t : ℚ) → stair_value (whole link.frame) (micros link.gap) (micros link.jitter) t ≤ₑ curve_of (first_stair link) t
above_stair link t = by_size (nat_lt link.jitter (2 ^ 62))
  where
    whole_is : bits (link.frame * 1024) ≡ whole link.frame
    whole_is = let e : link.frame * 1024 ≡ 1024 * link.frame = omega arith in ap bits e ∙ bits_whole link.frame

    by_size : (b : Bool) → stair_value (whole link.frame) (micros link.gap) (micros link.jitter) t
        ≤ₑ curve_of (if b then Some record { frame = link.frame * 1024; gap = link.gap; jitter = link.jitter } else None) t
    by_size false = tt
    by_size true =
        let it : Stair = record { frame = link.frame * 1024; gap = link.gap; jitter = link.jitter } in
        let P : ℚ → Type 0 = λ f. stair_value f (micros link.gap) (micros link.jitter) t ≤ₑ Fin (stair_at it t) in
        subst P whole_is (le_refl (stair_at it t))

abbrev pub Begins : Network → (ℕ → Option Stair) → Type 0
Begins net stair = (n : ℕ) → n < length (spots_of net) → (spot_at (spots_of net) n).source ≡ 0
    → stair n ≡ first_stair_of (slice_get net.links.items (spot_at (spots_of net) n).link)

-- the stair of a link at its first port
begun : (net : Network) (stair : ℕ → Option Stair) (i : ℕ) (v : IsLiveLink net i) → Begins net stair
    → stair (number_at net (first_server (route_of (flat (routes_of net)) i).hops) i) ≡ first_stair v.link
begun net stair i v begins =
    ap stair number ∙ begins (a + 0) at.0 (ap (λ (x : Spot). x.source) at.1 ∙ ap (source_in v.link) from)
    ∙ ap (λ (x : Spot). first_stair_of (slice_get net.links.items x.link)) at.1 ∙ ap first_stair_of v.found
  where
    a : ℕ
    a = length (spots_below net i)

    some : 0 < length v.link.nodes.items
    some = omega (arith, v.fits.some_node)

    first : first_server (route_of (flat (routes_of net)) i).hops ≡ (node_at v.link 0).port
    first = ap first_server (hops_are (routes_of net) i) ∙ ap (λ (t : Tree). first_server (hops_in t.nodes)) v.tree ∙ first_is v.link v.link.nodes.items v.fits.some_node

    number : number_at net (first_server (route_of (flat (routes_of net)) i).hops) i ≡ a + 0
    number = ap (λ s. number_at net s i) first ∙ number_is net i (node_at v.link 0).port 0 v.link v.fits v.found some refl

    from : (node_at v.link 0).from ≡ None
    from = none_before (node_at v.link 0).from (v.fits.nodes 0 some).hangs

    at : (a + 0 < length (spots_of net)) × (spot_at (spots_of net) (a + 0) ≡ spot_of i a v.link 0)
    at = spot_found net i (length net.links.items) v.link 0 v.found some v.few (omega arith)

pub enters_kept : (net : Network) (run : SpecRun) (stair : ℕ → Option Stair) → IsNetwork net → Begins net stair
    → KeepsTreePremises (routes_of net) (frame_of net) (stair_of net) (λ s. service_curve (port_at net s)) run
    → EntersKept (flat (routes_of net)) run (arrival_at net stair)
enters_kept net run stair w begins kept i live s t le =
    let v = live_link net i w (sym (live_is (routes_of net) i) ∙ live) in
    let P : Option Stair → Type 0 = λ o. Fin (entered_in i s t run.steps) ≤ₑ curve_of o (t -ℚ s) in
    let Q : Option Link → Type 0 = λ o. Fin (entered_in i s t run.steps) ≤ₑ stair_in o (t -ℚ s) in
    subst P (sym (begun net stair i v begins))
    (le_ext_trans (Fin (entered_in i s t run.steps)) (stair_in (Some v.link) (t -ℚ s)) (curve_of (first_stair v.link) (t -ℚ s))
    (subst Q v.found (kept.arrivals i live s t le)) (above_stair v.link (t -ℚ s)))

-- ---- the pace
longest_has : (spots : List Spot) (xs : List ℕ) (k d : ℕ) → k < length xs → (spot_at spots (get_or xs k d)).frame ≤ longest_of spots xs
unfolding longest_of
longest_has spots [] k d h = absurd (omega (arith, h))
longest_has spots (x ∷ xs) zero d h = omega arith
longest_has spots (x ∷ xs) (suc k) d h = let rest = longest_has spots xs k d (omega (arith, h)) in omega (arith, rest)

-- no frame of a part is longer than its longest
pub none_longer : (net : Network) (s q k i : ℕ) → IsNetwork net → is_of_tree_part (routes_of net) s q k i ≡ true
    → frame_of net i ≤ longest_of (spots_of net) (spots_in_group (spots_of net) s q k)
none_longer net s q k i w e = by_port (has_or_lacks v.link s q v.link.nodes.items)
  where
    numbers : List ℕ
    numbers = those (is_of_tree_part (routes_of net) s q k) (length net.links.items)

    v : IsLiveLink net i
    v =
        let r = route_of (flat (routes_of net)) i in
        let own = of_both (r.live && is_on s q r.hops) (part_number (tree_server_before s (tree_of (routes_of net) i).nodes) == k) e in
        live_link net i w (sym (live_is (routes_of net) i) ∙ (of_both r.live (is_on s q r.hops) own.0).0)

    there : HasPort v.link s q v.link.nodes.items → frame_of net i ≤ longest_of (spots_of net) (spots_in_group (spots_of net) s q k)
    there h =
        let at = spot_found net i (length net.links.items) v.link (place_of s v.link.nodes.items) v.found h.inside v.few (omega arith) in
        let number = ap (λ o. length (spots_below net i) + place_of s (nodes_in o)) v.found in
        let frame = ap frame_in v.found ∙ sym (ap (λ (x : Spot). x.frame) (ap (spot_at (spots_of net)) number ∙ at.1)) in
        let has = those_has (is_of_tree_part (routes_of net) s q k) (length net.links.items) i v.few e in
        let long = length-map numbers (number_at net s) in
        let most = longest_has (spots_of net) (map (number_at net s) numbers) has.0 0 (omega (arith, has.1, long)) in
        let is : get_or (map (number_at net s) numbers) has.0 0 ≡ number_at net s i = get_or-map (number_at net s) numbers has.0 i 0 has.1 ∙ ap (number_at net s) has.2 in
        let P : ℕ → Type 0 = λ n. (spot_at (spots_of net) n).frame ≤ longest_of (spots_of net) (map (number_at net s) numbers) in
        let Q : List ℕ → Type 0 = λ l. frame_of net i ≤ longest_of (spots_of net) l in
        let R : ℕ → Type 0 = λ n. n ≤ longest_of (spots_of net) (map (number_at net s) numbers) in
        subst Q (sym (gathered net s q k w)) (subst R (sym frame) (subst P is most))

    by_port : HasPort v.link s q v.link.nodes.items ⊎ LacksPort v.link s q v.link.nodes.items → frame_of net i ≤ longest_of (spots_of net) (spots_in_group (spots_of net) s q k)
    by_port (inl h) = there h
    by_port (inr m) =
        let no : false ≡ true =
        sym (in_part net i s q k v.link v.tree ∙ ap (λ b. b && (part_number (tree_server_before s (map (node_of v.link) v.link.nodes.items)) == k)) m.off) ∙ e in
        absurd (cc)

pub are_paced : (net : Network) (s q : ℕ) → IsNetwork net → AreTreePaced (routes_of net) s q (frame_of net) (longest_at net s q) (rate_at net)
are_paced net s q w = record {
  pace = λ p h. ap (λ (x : Server). x.pace) (get_or-map server_of net.ports.items p no_port record { discipline = servers.Fifo; pace = None } (short p h));
  some = λ p h. speed_nonneg (port_at net p).pace;
  none_longer = λ p i e. none_longer net s q (suc p) i w e;
}
  where
    short : (p : ℕ) → p < length (map server_of net.ports.items) → p < length net.ports.items
    short p h = let c = length-map net.ports.items server_of in omega (arith, h, c)
