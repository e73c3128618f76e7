-- Flows that come over one link of their trees are cut by the pace of the server before; a queue keeps the sum of its parts.
use Rattle.std.specs.Prelude.{Option, Some, None, ◌≡◌, ◌<◌, ◌≤◌, ℕ, zero, suc, ◌==◌, true, [], length}
use Rattle.std.proofs.Common.{arith, sym, ◌∙◌, refl, subst}
use Rattle.std.proofs.lemmas.Bool.{eqb-true, and_parts}
use Rattle.rational.specs.Rational.{ℚ}
use Rattle.rational.specs.Extended.{Ext}
use Rattle.run_laws.specs.Runs.{SpecRun}
use Rattle.run_laws.specs.Cards.{of_flow}
use Rattle.run_laws.specs.Premises.{KeepsArrivals}
use Rattle.run_laws.specs.Routes.{route_of, PassesServer}
use Rattle.run_laws.specs.Totals.{is_on, is_in}
use Rattle.run_laws.specs.Views.{view}
use Rattle.run_laws.proofs.Arrivals.{arrivals_map, IsPassing}
use Rattle.net_laws.specs.paces.Groups.{of_flows, part_number}
use Rattle.net_laws.proofs.paces.Groups.{flows_keep, known_flow, in_flow, came_is, group_cut_by, group_lesser_by, queue_of_parts}
use Rattle.tree_runs.specs.Trees.{TreeRoutes, tree_of, hops_in, tree_server_before, Hangs, IsTree, IsOverTrees, flat, next_servers, IsLawfulTree}
use Rattle.tree_runs.specs.Packets.{KeepsTreeSizes}
use Rattle.tree_runs.specs.Parts.{TreeGroupIsCut, is_of_tree_part, tree_part_curve, AreTreePaced, TreePartsAreKept}
use Rattle.net_laws.proofs.Links.{arc_window}
use Rattle.tree_runs.proofs.Packets.{tree_passing_at}
use Rattle.tree_runs.proofs.Trees.{hops_are, live_is, from_passes, arc_of, path_known, hung_on}
use Rattle.net_laws.proofs.Views.{views_lawful}

-- a flow that hangs anywhere is one of the network's
hanging_flow : (net : TreeRoutes) (i a b : ℕ) → Hangs net i a b → i < length (flat net).flows
hanging_flow net i a b hangs =
    known_flow (flat net).flows i (PassesServer b) (λ p. p)
    (subst (PassesServer b) (sym (hops_are net i)) (from_passes b (tree_of net i).nodes a hangs))

pub tree_group_is_cut : TreeGroupIsCut
tree_group_is_cut net run test from to bits rate lawful paced trees hangs =
    group_cut_by (flat net) run test from to bits rate (views_lawful (flat net) (next_servers net) run from lawful paced.known) paced
    (λ i e. hanging_flow net i from to (hangs i e))
    (λ i e s t. arc_window (flat net) (next_servers net) run i from to s t lawful (arc_of net i from to (trees i e) (hangs i e)))

record Kept (net : TreeRoutes) (run : SpecRun) (s q : ℕ) (packet longest : ℕ → ℕ) (rate : ℕ → ℚ) (α : ℕ → ℚ → Ext) : Type 0 where
  lawful : IsLawfulTree net run
  trees : IsOverTrees net
  sizes : KeepsTreeSizes net packet run
  paced : AreTreePaced net s q packet longest rate
  keeps : (i : ℕ) → is_in (flat net) s q i ≡ true → KeepsArrivals (of_flow i) (α i) (view (flat net) run s)

-- the tree of a flow that is in a queue
tree_in : (net : TreeRoutes) (s q i : ℕ) → IsOverTrees net → is_in (flat net) s q i ≡ true → IsTree net i
tree_in net s q i trees e = trees i (sym (live_is net i) ∙ (and_parts (route_of (flat net) i).live (is_on s q (route_of (flat net) i).hops) e).0)

from_below : (net : TreeRoutes) (i s : ℕ) (from : Option ℕ) → IsTree net i → tree_server_before s (tree_of net i).nodes ≡ from
    → part_number from < suc (length net.servers)
from_below net i s None tree e = omega arith
from_below net i s (Some p) tree e =
    let known = path_known (flat net) (hops_in (tree_of net i).nodes) p tree.servers (hung_on [] (tree_of net i).nodes s p tree.hangs e) in
    omega (arith, known)

part_keeps : (net : TreeRoutes) (run : SpecRun) (s q k : ℕ) (packet longest : ℕ → ℕ) (rate : ℕ → ℚ) (α : ℕ → ℚ → Ext)
    → Kept net run s q packet longest rate α → k < suc (length net.servers)
    → KeepsArrivals (of_flows (is_of_tree_part net s q k)) (tree_part_curve net s q α longest rate k) (view (flat net) run s)
part_keeps net run s q zero packet longest rate α h l =
    let test = is_of_tree_part net s q zero in
    let inside = λ (i : ℕ) (e : test i ≡ true). (and_parts (is_in (flat net) s q i) (part_number (tree_server_before s (tree_of net i).nodes) == zero) e).0 in
    flows_keep (flat net) test α (view (flat net) run s) (λ i e. in_flow (flat net) s q i (inside i e)) (λ i e. h.keeps i (inside i e))
part_keeps net run s q (suc p) packet longest rate α h l =
    let test = is_of_tree_part net s q (suc p) in
    let parts = λ (i : ℕ) (e : test i ≡ true). and_parts (is_in (flat net) s q i) (part_number (tree_server_before s (tree_of net i).nodes) == suc p) e in
    let hangs = λ (i : ℕ) (e : test i ≡ true). came_is (tree_server_before s (tree_of net i).nodes) p (eqb-true (part_number (tree_server_before s (tree_of net i).nodes)) (suc p) (parts i e).1) in
    let small = h.paced.none_longer p in
    let known : p < length net.servers = omega arith in
    group_lesser_by (flat net) run test p s (longest p) (rate p) α
    (views_lawful (flat net) (next_servers net) run p h.lawful known)
    record {
      known = known;
      pace = h.paced.pace p known;
      some = h.paced.some p known;
      sizes = arrivals_map (IsPassing (flat net) packet p) (λ c. test c.flow ≡ true → c.bits ≤ longest p)
          (λ c own e. let one = own.small in let two = small c.flow e in omega arith) (view (flat net) run p) (tree_passing_at net run packet p h.lawful h.sizes);
    }
    (λ i e. hanging_flow net i p s (hangs i e))
    (λ i e a b. arc_window (flat net) (next_servers net) run i p s a b h.lawful (arc_of net i p s (tree_in net s q i h.trees (parts i e).0) (hangs i e)))
    (λ i e. h.keeps i (parts i e).0)

pub tree_parts_are_kept : TreePartsAreKept
tree_parts_are_kept net run s q packet longest rate α lawful trees sizes paced keeps =
    let h : Kept net run s q packet longest rate α = record { lawful = lawful; trees = trees; sizes = sizes; paced = paced; keeps = keeps } in
    queue_of_parts (flat net) run s q packet (λ i. tree_server_before s (tree_of net i).nodes) (tree_part_curve net s q α longest rate)
    (tree_passing_at net run packet s lawful sizes)
    (λ i e. from_below net i s (tree_server_before s (tree_of net i).nodes) (tree_in net s q i trees e) refl)
    (λ k l. part_keeps net run s q k packet longest rate α h l)
