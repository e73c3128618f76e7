-- A tree in which no server has two next ones is a path, with the same lawful runs; and each path is such a tree.
use Rattle.std.specs.Prelude.{Option, Some, None, ◌≡◌, ℕ, zero, suc, ◌+◌, ◌≤◌, ◌==◌, false, List, [], ◌∷◌, ◌++◌, length, get_or, map}
use Rattle.std.proofs.Common.{arith, sym, ap, ◌∙◌, refl, inl, inr, subst, append_assoc}
use Rattle.std.proofs.lemmas.Bool.{cases_Bool, eqb-true, eq-eqb, ne_eqb}
use Rattle.run_laws.specs.Routes.{Hop, Route, Routes, route_of, PassesServer, server_after}
use Rattle.net_laws.specs.Paths.{IsPath}
use Rattle.tree_runs.specs.Trees.{Node, Tree, TreeRoutes, tree_of, hops_in, flat_tree, flat, is_from, hanging_on, next_servers, HangsOn, EachHangs, IsOverTrees}
use Rattle.tree_runs.specs.Unbranched.{IsUnbranched, UnbranchedTreesArePaths, chain, tree_of_path, trees_of_paths, PathsAreTrees}
use Rattle.tree_runs.proofs.Trees.{hops_are, live_is, passes_there, passes_last}
use Rattle.net_laws.specs.Multicast.{listed}
use Rattle.net_laws.proofs.PathRuns.{GoesAsPath, lawful_of_path, lawful_of_tree}

-- ---- what follows a server on a path that passes none twice
few_listed : (y : Option ℕ) → length (listed y) ≤ 1
few_listed None = omega arith
few_listed (Some s) = omega arith

after_none : (s : ℕ) (hs : List Hop) → (PassesServer s hs → ⊥) → server_after s hs ≡ None
after_none s [] h = refl
after_none s (x ∷ hs) h = rw (ne_eqb x.server s (λ e. h (inl e))) (after_none s hs (λ p. h (inr p)))

hanging_later : (net : Routes) (s : ℕ) (h : Hop) (hs : List Hop) → IsPath net (h ∷ hs)
    → hanging_on s (chain (Some h.server) hs) ≡ listed (server_after s (h ∷ hs))
hanging_later net s h [] path = elim (cases_Bool (h.server == s)) [
  | inl e ↦ rw e refl
  | inr e ↦ rw e refl
]
hanging_later net s h (g ∷ hs) path =
    let rest = hanging_later net s g hs path.3 in
    elim (cases_Bool (h.server == s)) [
      | inl e ↦
          let none = after_none s (g ∷ hs) (λ p. path.2 (subst (λ (k : ℕ). PassesServer k (g ∷ hs)) (sym (eqb-true h.server s e)) p)) in
          rw e (ap (λ (ss : List ℕ). g.server ∷ ss) (rest ∙ ap listed none))
      | inr e ↦ rw e rest
    ]

hanging_chain : (net : Routes) (s : ℕ) (hs : List Hop) → IsPath net hs → hanging_on s (chain None hs) ≡ listed (server_after s hs)
hanging_chain net s [] path = refl
hanging_chain net s (h ∷ hs) path = hanging_later net s h hs path

-- ---- the nodes of a tree in which no server has two next ones
hanging_append : (s : ℕ) (ns ms : List Node) → length (hanging_on s (ns ++ ms)) ≡ length (hanging_on s ns) + length (hanging_on s ms)
hanging_append s [] ms = omega arith
hanging_append s (n ∷ ns) ms =
    let rest = hanging_append s ns ms in
    elim (cases_Bool (is_from s n.from)) [
      | inl e ↦ rw e (omega (arith, rest))
      | inr e ↦ rw e rest
    ]

one_hangs : (s : ℕ) (n : Node) (ns : List Node) → n.from ≡ Some s → 1 ≤ length (hanging_on s (n ∷ ns))
one_hangs s n ns e = rw (e, eq-eqb s s refl) (omega arith)

not_nil : (done : List Node) (x : Node) → done ++ x ∷ [] ≡ [] → ⊥
not_nil [] x e = cc
not_nil (y ∷ ys) x e = cc

record Grows (done : List Node) (x : Node) (ns : List Node) : Type 0 where
  hangs : EachHangs (done ++ x ∷ []) ns
  few : (s : ℕ) → length (hanging_on s ((done ++ x ∷ []) ++ ns)) ≤ 1
  full : (s : ℕ) → PassesServer s (hops_in done) → 1 ≤ length (hanging_on s (done ++ x ∷ []))

-- the next hangs on the last, since each other one has its next
on_last : (done : List Node) (x m : Node) (ms : List Node) → Grows done x (m ∷ ms) → (from : Option ℕ) → m.from ≡ from
    → HangsOn from (done ++ x ∷ []) → m.from ≡ Some x.server
on_last done x m ms g None e h = absurd (not_nil done x h)
on_last done x m ms g (Some a) e h = elim (passes_last done x a h) [
  | inr same ↦ e ∙ ap (λ (k : ℕ). Some k) (sym same)
  | inl p ↦
      let two = hanging_append a (done ++ x ∷ []) (m ∷ ms) in
      let before = g.full a p in
      let here = one_hangs a m ms e in
      let most = g.few a in
      absurd (omega arith)
]

grown : (done : List Node) (x : Node) (ns : List Node) → Grows done x ns → ns ≡ chain (Some x.server) (hops_in ns)
grown done x [] g = refl
grown done x (m ∷ ms) g =
    let on = on_last done x m ms g m.from refl g.hangs.0 in
    let assoc = append_assoc (done ++ x ∷ []) (m ∷ []) ms in
    let rest = grown (done ++ x ∷ []) m ms record {
      hangs = g.hangs.1;
      few = λ s. subst (λ (ns : List Node). length (hanging_on s ns) ≤ 1) (sym assoc) (g.few s);
      full = λ s p.
          let sum = hanging_append s (done ++ x ∷ []) (m ∷ []) in
          elim (passes_last done x s p) [
            | inl k ↦ let before = g.full s k in omega arith
            | inr e ↦ let here = one_hangs s m [] (on ∙ ap (λ (k : ℕ). Some k) e) in omega arith
          ];
    } in
    ap (λ (from : Option ℕ). record { server = m.server; queue = m.queue; from = from } ∷ ms) on
    ∙ ap (λ (ns : List Node). record { server = m.server; queue = m.queue; from = Some x.server } ∷ ns) rest

whole_chain : (ns : List Node) → EachHangs [] ns → ((s : ℕ) → length (hanging_on s ns) ≤ 1) → ns ≡ chain None (hops_in ns)
whole_chain [] h few = refl
whole_chain (n ∷ ns) h few =
    let free = none n.from h.0 in
    let rest = grown [] n ns record { hangs = h.1; few = few; full = λ s p. absurd p } in
    made n ns free rest
  where
    none : (from : Option ℕ) → HangsOn from [] → from ≡ None
    none None k = refl
    none (Some p) k = absurd k

    made : (n : Node) (ns : List Node) → n.from ≡ None → ns ≡ chain (Some n.server) (hops_in ns) → n ∷ ns ≡ chain None (hops_in (n ∷ ns))
    made n ns free rest =
        ap (λ (from : Option ℕ). record { server = n.server; queue = n.queue; from = from } ∷ ns) free
        ∙ ap (λ (ms : List Node). record { server = n.server; queue = n.queue; from = None } ∷ ms) rest

-- ---- over trees
goes_as_path : (net : TreeRoutes) → IsOverTrees net → IsUnbranched net → GoesAsPath (flat net) (next_servers net)
goes_as_path net trees few i s live =
    let is_live = sym (live_is net i) ∙ live in
    let tree = trees i is_live in
    ap (hanging_on s) (whole_chain (tree_of net i).nodes tree.hangs (λ k. few i k is_live))
    ∙ hanging_chain (flat net) s (hops_in (tree_of net i).nodes) tree.servers
    ∙ ap (λ (hs : List Hop). listed (server_after s hs)) (sym (hops_are net i))

pub unbranched_trees_are_paths : UnbranchedTreesArePaths
unbranched_trees_are_paths net run trees few = (
  λ i live. subst (IsPath (flat net)) (sym (hops_are net i)) (trees i (sym (live_is net i) ∙ live)).servers,
  record {
    of_path = lawful_of_path (flat net) (next_servers net) run (goes_as_path net trees few);
    of_tree = lawful_of_tree (flat net) (next_servers net) run (goes_as_path net trees few);
  },
)

-- ---- each path is such a tree
chain_hops : (from : Option ℕ) (hs : List Hop) → hops_in (chain from hs) ≡ hs
chain_hops from [] = refl
chain_hops from (h ∷ hs) = ap (λ (gs : List Hop). h ∷ gs) (chain_hops (Some h.server) hs)

flat_chain : (rs : List Route) → map flat_tree (map tree_of_path rs) ≡ rs
flat_chain [] = refl
flat_chain (r ∷ rs) =
    ap (λ (hs : List Hop). record { live = r.live; hops = hs } ∷ map flat_tree (map tree_of_path rs)) (chain_hops None r.hops)
    ∙ ap (λ (qs : List Route). r ∷ qs) (flat_chain rs)

tree_from : (rs : List Route) (i : ℕ)
    → get_or (map tree_of_path rs) i record { live = false; nodes = [] } ≡ tree_of_path (get_or rs i record { live = false; hops = [] })
tree_from [] i = refl
tree_from (r ∷ rs) zero = refl
tree_from (r ∷ rs) (suc i) = tree_from rs i

chain_hangs : (done : List Node) (x : Node) (hs : List Hop) → EachHangs (done ++ x ∷ []) (chain (Some x.server) hs)
chain_hangs done x [] = tt
chain_hangs done x (h ∷ hs) =
    let n : Node = record { server = h.server; queue = h.queue; from = Some x.server } in
    (passes_there done x [], chain_hangs (done ++ x ∷ []) n hs)

all_hang : (hs : List Hop) → EachHangs [] (chain None hs)
all_hang [] = tt
all_hang (h ∷ hs) = (refl, chain_hangs [] record { server = h.server; queue = h.queue; from = None } hs)

pub paths_are_trees : PathsAreTrees
paths_are_trees net paths =
    let same : flat (trees_of_paths net) ≡ net = ap (λ (rs : List Route). record { servers = net.servers; links = net.links; flows = rs }) (flat_chain net.flows) in
    let is : (i : ℕ) → tree_of (trees_of_paths net) i ≡ tree_of_path (route_of net i) = λ i. tree_from net.flows i in
    record {
      same = same;
      trees = λ i live.
          let path = paths i (sym (ap (λ (t : Tree). t.live) (is i)) ∙ live) in
          let hops : hops_in (tree_of (trees_of_paths net) i).nodes ≡ (route_of net i).hops = ap (λ (t : Tree). hops_in t.nodes) (is i) ∙ chain_hops None (route_of net i).hops in
          record {
            servers = subst (IsPath (flat (trees_of_paths net))) (sym hops) (subst (λ (n : Routes). IsPath n (route_of net i).hops) (sym same) path);
            hangs = subst (λ (t : Tree). EachHangs [] t.nodes) (sym (is i)) (all_hang (route_of net i).hops);
          };
      unbranched = λ i s live.
          let path = paths i (sym (ap (λ (t : Tree). t.live) (is i)) ∙ live) in
          subst (λ (ss : List ℕ). length ss ≤ 1)
          (sym (ap (λ (t : Tree). hanging_on s t.nodes) (is i) ∙ hanging_chain net s (route_of net i).hops path))
          (few_listed (server_after s (route_of net i).hops));
    }
