-- What a port sees of a lawful run that keeps its premises, and so that each queue keeps its row.
use Rattle.std.proofs.Common.{◌≡◌, ℕ, zero, suc, ◌<◌, ◌≤◌, ◌+◌, ◌==◌, ◌⊎◌, Bool, true, false, Option, Some, None, List, [], ◌∷◌, ◌++◌, length, map, refl, sym, ◌∙◌, ap, subst, arith, inl, inr}
use Rattle.std.specs.Option.{option_map}
use Rattle.std.proofs.lemmas.Bool.{cases_eq, cases_lt}
use Rattle.std.proofs.lemmas.List.{get_or-map, length-map, get_or_past, get_or_append_left, get_or_at}
use Rattle.rational.specs.Rational.{◌-ℚ◌}
use Rattle.rational.specs.Extended.{Ext, ◌≤ₑ◌}
use Rattle.rational.specs.declared.Extended.TheVariants.{Fin}
use Rattle.run_laws.specs.Runs.{SpecRun}
use Rattle.run_laws.specs.Cards.{of_queue}
use Rattle.run_laws.specs.Counts.{arrived_in}
use Rattle.run_laws.specs.Premises.{KeepsArrivals, KeepsSizes}
use Rattle.run_laws.specs.Allows.{IsLawfulView}
use Rattle.run_laws.specs.Servers as servers
use Rattle.run_laws.specs.Servers.{Server}
use Rattle.run_laws.specs.Routes.{Hop, server_at, queue_at, PassesServer}
use Rattle.run_laws.specs.Totals.{is_on}
use Rattle.run_laws.specs.Views.{view}
use Rattle.net_laws.specs.paces.Groups.{part_number}
use Rattle.tree_runs.specs.Trees.{Tree, tree_of, hops_in, flat, tree_server_before}
use Rattle.tree_runs.specs.Parts.{is_of_tree_part}
use Rattle.tree_runs.specs.BoundedByParts.{QueuesKeepParts}
use Rattle.tree_runs.proofs.Trees.{live_is, hops_are}
use Rattle.tree_runs.proofs.Views.{tree_views_are_lawful}
use Rattle.tree_runs.proofs.Packets.{tree_queues_keep_sizes}
use Rattle.arrival_lines.specs.declared.grid.Line.{Line}
use Rattle.arrival_stairs.specs.Stairs.{bundles_at}
use Rattle.arrival_stairs.specs.Views.{bunches}
use Rattle.arrival_stairs.specs.declared.stairs.Bundle.{Bundle}
use Rattle.arrival_stairs.specs.declared.stairs.Stair.{Stair}
use Rattle.arrival_stairs.proofs.OneExcess.{value_is}
use Rattle.tree_network.specs.Networks.{IsNetwork, HangsBefore, node_at, port_at, no_port, queues_of}
use Rattle.tree_network.specs.declared.network.Network.{Network}
use Rattle.tree_network.specs.declared.spots.Spot.{Spot}
use Rattle.tree_network.specs.Spots.{spots_of}
use Rattle.tree_network.proofs.Those.{eq_true, of_eq}
use Rattle.port_bounds.specs.Incoming.{Incoming, queue_in}
use Rattle.port_bounds.specs.Ports.{server_of}
use Rattle.port_bounds.specs.StairsIncoming.{StairsIn, stairs_at}
use Rattle.port_bounds.specs.StairPromises.{AreStairsSeenAt}
use Rattle.port_bounds.proofs.StairsHeld.{at_line}
use Rattle.tree_bounds.specs.Bunches.{Arriving, arriving_of}
use Rattle.tree_bounds.specs.Groups.{longest_of, spots_in_group, group_list, groups_at, longest_group, incoming_at, incomings_at}
use Rattle.tree_bounds.specs.Equations.{arrivals_of, comes_to}
use Rattle.tree_bounds.specs.Lines.{line_of}
use Rattle.tree_bounds.proofs.Bunched.{arriving_length, lines_of_coming}
use Rattle.tree_bounds.proofs.InLimits.{queue_arriving}
use Rattle.tree_bounds.proofs.Ranged.{incomings_length}
use Rattle.tree_bounds.specs.guarantee.Routes.{routes_of, node_of, port_before}
use Rattle.tree_bounds.specs.guarantee.Guarantee.{frame_of, IsRunOf}
use Rattle.tree_bounds.proofs.guarantee.Gathered.{place_of, HasPort, LacksPort, has_or_lacks}
use Rattle.tree_bounds.proofs.guarantee.Summed.{arrival_at, longest_at, rate_at, queue_brings}
use Rattle.tree_bounds.proofs.guarantee.Begun.{IsLiveLink, live_link, none_longer}

-- ---- the arrivals of a queue
pub incoming_found : (net : Network) (spots : List Spot) (line : ℕ → Option Line) (s q n : ℕ) → q < n
    → queue_in (incomings_at net spots line s n) q ≡ incoming_at net spots line s q
unfolding incomings_at
incoming_found net spots line s q zero h = absurd (omega (arith, h))
incoming_found net spots line s q (suc n) h =
    let count = incomings_length net spots line s n in
    elim (cases_eq q n) [
      | inl same ↦
          get_or_at (incomings_at net spots line s n) (incoming_at net spots line s n) [] record { parts = None; longest = 0 } q (omega (arith, count, same))
          ∙ ap (λ k. incoming_at net spots line s k) (sym same)
      | inr other ↦
          get_or_append_left (incomings_at net spots line s n) (incoming_at net spots line s n ∷ []) record { parts = None; longest = 0 } q (omega (arith, count, h, other))
          ∙ incoming_found net spots line s q n (omega (arith, h, other))
    ]

-- ---- the longest frame of a queue
longest_both : (xs ys : List _) → (longest_group xs ≤ longest_group (xs ++ ys)) × (longest_group ys ≤ longest_group (xs ++ ys))
unfolding longest_group
longest_both [] ys = (omega arith, omega arith)
longest_both (x ∷ xs) ys = let r = longest_both xs ys in (omega (arith, r.0), omega (arith, r.1))

longest_own : (spots : List Spot) (line : ℕ → Option Line) (k : ℕ) (xs : List ℕ) → longest_of spots xs ≤ longest_group (group_list spots line k xs)
unfolding longest_group longest_of
longest_own spots line k [] = omega arith
longest_own spots line k (x ∷ xs) = omega arith

pub longest_in : (spots : List Spot) (line : ℕ → Option Line) (s q k n : ℕ) → k < n
    → longest_of spots (spots_in_group spots s q k) ≤ longest_group (groups_at spots line s q n)
unfolding groups_at
longest_in spots line s q k zero h = absurd (omega (arith, h))
longest_in spots line s q k (suc n) h =
    let both = longest_both (groups_at spots line s q n) (group_list spots line n (spots_in_group spots s q n)) in
    elim (cases_eq k n) [
      | inl same ↦
          let own = longest_own spots line n (spots_in_group spots s q n) in
          let is = ap (λ j. longest_of spots (spots_in_group spots s q j)) same in
          omega (arith, own, both.1, is)
      | inr other ↦ let r = longest_in spots line s q k n (omega (arith, h, other)) in omega (arith, r, both.0)
    ]

-- ---- frames in a queue
on_is : (s q : ℕ) (hs : List Hop) → PassesServer s hs → is_on s q hs ≡ (queue_at s hs == q)
on_is s q [] p = absurd p
on_is s q (h ∷ hs) p = by_first (λ r. on_is s q hs r) (h.server == s) refl
  where
    later : (h.server == s) ≡ false → (h.server ≡ s) ⊎ PassesServer s hs → PassesServer s hs
    later e (inl same) = absurd (let f : true ≡ false = sym (eq_true h.server s same) ∙ e in cc)
    later e (inr r) = r

    by_first : (PassesServer s hs → is_on s q hs ≡ (queue_at s hs == q)) → (b : Bool) → (h.server == s) ≡ b → is_on s q (h ∷ hs) ≡ (queue_at s (h ∷ hs) == q)
    by_first rest true e = rw e refl
    by_first rest false e = rw e (rest (later e p))

-- where frames come from is 0 or one more than a port
few_sources : (net : Network) (i s q : ℕ) (v : IsLiveLink net i) → HasPort v.link s q v.link.nodes.items
    → part_number (tree_server_before s (map (node_of v.link) v.link.nodes.items)) < length net.ports.items + 1
few_sources net i s q v h = let e = ap part_number h.from in let less = by_from (node_at v.link (place_of s v.link.nodes.items)).from refl in omega (arith, e, less)
  where
    by_from : (from : Option ℕ) → (node_at v.link (place_of s v.link.nodes.items)).from ≡ from → part_number (port_before v.link from) < length net.ports.items + 1
    by_from None e = omega arith
    by_from (Some f) e =
        let P : Option ℕ → Type 0 = λ o. HangsBefore (place_of s v.link.nodes.items) o in
        let early : f < place_of s v.link.nodes.items = subst P e (v.fits.nodes (place_of s v.link.nodes.items) h.inside).hangs in
        let inside = h.inside in
        let port = (v.fits.nodes f (omega (arith, early, inside))).port in
        omega (arith, port)

small_frames : (net : Network) (stair : ℕ → Option Stair) (s q i : ℕ) → IsNetwork net → (tree_of (routes_of net) i).live ≡ true
    → PassesServer s (hops_in (tree_of (routes_of net) i).nodes) → (queue_at s (hops_in (tree_of (routes_of net) i).nodes) == q) ≡ true
    → frame_of net i ≤ (queue_in (arrivals_of net stair s) q).longest
small_frames net stair s q i w live passes in_queue = by_port (has_or_lacks v.link s q v.link.nodes.items)
  where
    v : IsLiveLink net i
    v = live_link net i w live

    Fits : Type 0
    Fits = frame_of net i ≤ (queue_in (arrivals_of net stair s) q).longest

    on : is_on s q (hops_in (tree_of (routes_of net) i).nodes) ≡ true
    on = on_is s q (hops_in (tree_of (routes_of net) i).nodes) passes ∙ in_queue

    on_link : is_on s q (hops_in (map (node_of v.link) v.link.nodes.items)) ≡ true
    on_link = ap (λ (t : Tree). is_on s q (hops_in t.nodes)) (sym v.tree) ∙ on

    k : ℕ
    k = part_number (tree_server_before s (tree_of (routes_of net) i).nodes)

    in_part : is_of_tree_part (routes_of net) s q k i ≡ true
    in_part =
        let a = live_is (routes_of net) i ∙ live in
        let b = ap (is_on s q) (hops_are (routes_of net) i) ∙ on in
        let c = eq_true k k refl in
        rw (a, b, c) refl

    count : ℕ
    count = queues_of (port_at net s).discipline

    there : HasPort v.link s q v.link.nodes.items → Fits
    there h =
        let queue = of_eq (node_at v.link (place_of s v.link.nodes.items)).queue q (sym h.queue ∙ on_link) in
        let P : ℕ → Type 0 = λ p. (node_at v.link (place_of s v.link.nodes.items)).queue < queues_of (port_at net p).discipline in
        let inside = subst P h.port (v.fits.nodes (place_of s v.link.nodes.items) h.inside).queue in
        let early : q < count = omega (arith, inside, queue) in
        let few = few_sources net i s q v h in
        let same : k ≡ part_number (tree_server_before s (map (node_of v.link) v.link.nodes.items)) = ap (λ (t : Tree). part_number (tree_server_before s t.nodes)) v.tree in
        let own = none_longer net s q k i w in_part in
        let most = longest_in (spots_of net) (λ n. line_of (stair n)) s q k (length net.ports.items + 1) (omega (arith, few, same)) in
        let is = ap (λ (x : Incoming). x.longest) (incoming_found net (spots_of net) (λ n. line_of (stair n)) s q count early) in
        omega (arith, own, most, is)

    by_port : HasPort v.link s q v.link.nodes.items ⊎ LacksPort v.link s q v.link.nodes.items → Fits
    by_port (inl h) = there h
    by_port (inr m) = absurd (let f : false ≡ true = sym m.off ∙ on_link in cc)

-- ---- what the port sees
pub seen : (net : Network) (stair : ℕ → Option Stair) (run : SpecRun) (s : ℕ) (queues : List StairsIn) → IsNetwork net → IsRunOf net run → s < length net.ports.items
    → map arriving_of queues ≡ comes_to net stair s → QueuesKeepParts (routes_of net) run (arrival_at net stair) (longest_at net) (rate_at net) s
    → AreStairsSeenAt (port_at net s) queues run.end (view (flat (routes_of net)) run s)
seen net stair run s queues w r inside are kept = record {
  lawful = subst (λ (x : Server). IsLawfulView x run.end (view (flat (routes_of net)) run s)) server (tree_views_are_lawful (routes_of net) run s r.lawful known);
  service = r.premises.service s known;
  sizes = λ q. subst (λ (n : ℕ). KeepsSizes (of_queue q) n (view (flat (routes_of net)) run s)) (longest q)
      (tree_queues_keep_sizes (routes_of net) run (frame_of net) s (λ c. c == q) (queue_in (arrivals_of net stair s) q).longest r.lawful
      (λ i live. r.premises.sizes i (live_is (routes_of net) i ∙ live)) (λ i live passes e. small_frames net stair s q i w live passes e));
  arrivals = λ q bundles e. arrive q bundles e (cases_lt q (queues_of (port_at net s).discipline));
}
  where
    known : s < length (flat (routes_of net)).servers
    known = let c = length-map net.ports.items server_of in omega (arith, c, inside)

    server : server_at (flat (routes_of net)) s ≡ server_of (port_at net s)
    server = get_or-map server_of net.ports.items s no_port record { discipline = servers.Fifo; pace = None } inside

    longest : (q : ℕ) → (queue_in (arrivals_of net stair s) q).longest ≡ (stairs_at queues q).longest
    longest q =
        ap (λ (xs : List Incoming). (queue_in xs q).longest) (sym (lines_of_coming net (spots_of net) stair s (queues_of (port_at net s).discipline) queues are))
        ∙ ap (λ (x : Incoming). x.longest) (at_line queues q)

    arrive : (q : ℕ) (bundles : List Bundle) → (stairs_at queues q).bundles ≡ Some bundles
        → (q < queues_of (port_at net s).discipline) ⊎ (queues_of (port_at net s).discipline ≤ q)
        → KeepsArrivals (of_queue q) (λ t. Fin (bundles_at bundles t)) (view (flat (routes_of net)) run s)
    arrive q bundles e (inl few) =
        let is = sym (ap (λ (x : Arriving). x.bunches) (queue_arriving net (spots_of net) stair s (queues_of (port_at net s).discipline) q queues are few))
        ∙ ap (option_map bunches) e in
        λ a b le.
        subst (λ (x : Ext). Fin (arrived_in (of_queue q) (view (flat (routes_of net)) run s) a b) ≤ₑ x)
        (queue_brings net stair s q (bunches bundles) (b -ℚ a) w is ∙ ap Fin (sym (value_is bundles (b -ℚ a)))) (kept q a b le)
    arrive q bundles e (inr past) =
        let long = length-map queues arriving_of in
        let same = ap length are in
        let all = arriving_length net (spots_of net) stair s (queues_of (port_at net s).discipline) in
        let f : None ≡ Some bundles = sym (ap (λ (x : StairsIn). x.bundles) (get_or_past queues q record { bundles = None; longest = 0 } (omega (arith, long, same, all, past)))) ∙ e in
        absurd (cc)
