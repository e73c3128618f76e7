-- The links of a network as trees.
use Rattle.std.proofs.Common.{◌≡◌, ℕ, zero, suc, ◌<◌, ◌≤◌, ◌+◌, pos, true, false, Option, Some, None, List, [], ◌∷◌, ◌++◌, inl, inr, length, get_or, map, refl, sym, ◌∙◌, ap, subst, arith, append_assoc, length-append}
use Rattle.std.proofs.lemmas.Bool.{cases_lt}
use Rattle.std.proofs.lemmas.List.{get_or-map, length-map, get_or_past, get_or_append_left, get_or_at, map-append}
use Rattle.std.specs.Prelude.{slice_get}
use Rattle.std.proofs.lemmas.Option.{get_or_from_slice_get, slice_get_cases}
use Rattle.rational.proofs.Laws.{le_refl}
use Rattle.port_bounds.specs.Ports.{server_of}
use Rattle.rational.specs.Rational.{ℚ, int, ◌≤ℚ◌}
use Rattle.run_laws.specs.Routes.{PassesServer, link_at}
use Rattle.net_laws.specs.Paths.{IsPath}
use Rattle.tree_runs.specs.Trees as trees
use Rattle.tree_runs.specs.Trees.{tree_of, hops_in, flat, HangsOn, EachHangs, IsTree, Tree}
use Rattle.arrival_lines.proofs.Units.{micros_nonneg}
use Rattle.tree_network.specs.Networks.{IsNetwork, IsLink, node_at, no_node, port_at, no_port, HangsBefore}
use Rattle.tree_network.specs.declared.network.Link.{Link}
use Rattle.tree_network.specs.declared.network.Network.{Network}
use Rattle.tree_network.specs.declared.network.Node.{Node}
use Rattle.tree_bounds.specs.guarantee.Routes.{routes_of, tree_of_link, node_of, port_before, link_time, NetworksAreTrees}

-- ---- the tree of a link
pub tree_at : (net : Network) (i : ℕ) (link : Link) → i < length net.links.items → link ≡ get_or net.links.items i link → tree_of (routes_of net) i ≡ tree_of_link link
tree_at net i link h e = get_or-map tree_of_link net.links.items i link record { live = false; nodes = [] } h ∙ ap tree_of_link (sym e)

pub no_tree : (net : Network) (i : ℕ) → length net.links.items ≤ i → (tree_of (routes_of net) i).live ≡ true → ⊥
no_tree net i h live =
    let count = length-map net.links.items tree_of_link in
    let past = get_or_past (map tree_of_link net.links.items) i record { live = false; nodes = [] } (omega (arith, count, h)) in
    let f : false ≡ true = sym (ap (λ (t : Tree). t.live) past) ∙ live in cc

-- ---- servers of its nodes
passes_at : (link : Link) (xs : List Node) (s : ℕ) → PassesServer s (hops_in (map (node_of link) xs)) → (k : ℕ) × (k < length xs) × ((get_or xs k no_node).port ≡ s)
passes_at link [] s p = absurd p
passes_at link (x ∷ xs) s (inl e) = (0, omega arith, e)
passes_at link (x ∷ xs) s (inr p) = let k = passes_at link xs s p in (suc k.0, omega (arith, k.1), k.2)

pub at_passes : (link : Link) (xs : List Node) (k : ℕ) → k < length xs → PassesServer (get_or xs k no_node).port (hops_in (map (node_of link) xs))
at_passes link [] k h = absurd (omega (arith, h))
at_passes link (x ∷ xs) zero h = inl refl
at_passes link (x ∷ xs) (suc k) h = inr (at_passes link xs k (omega (arith, h)))

-- ports of the network, none of them twice
record AreApart (net : Network) (xs : List Node) : Type 0 where
  inside : (k : ℕ) → k < length xs → (get_or xs k no_node).port < length net.ports.items
  once : (i j : ℕ) → i < j → j < length xs → (get_or xs i no_node).port ≡ (get_or xs j no_node).port → ⊥

link_nonneg : (net : Network) (s : ℕ) → int (pos 0) ≤ℚ link_at (flat (routes_of net)) s
link_nonneg net s =
    let P : ℚ → Type 0 = λ t. int (pos 0) ≤ℚ t in
    elim (cases_lt s (length net.ports.items)) [
      | inl h ↦ subst P (sym (get_or-map link_time net.ports.items s no_port (int (pos 0)) h)) (micros_nonneg (port_at net s).link)
      | inr h ↦
          let count = length-map net.ports.items link_time in
          subst P (sym (get_or_past (map link_time net.ports.items) s (int (pos 0)) (omega (arith, count, h)))) (le_refl (int (pos 0)))
    ]

path_of : (net : Network) (link : Link) (xs : List Node) → AreApart net xs → IsPath (flat (routes_of net)) (hops_in (map (node_of link) xs))
path_of net link [] a = tt
path_of net link (x ∷ xs) a = (
  inside_of (a.inside 0 (omega arith)),
  link_nonneg net x.port,
  λ p. let k = passes_at link xs x.port p in a.once 0 (suc k.0) (omega arith) (omega (arith, k.1)) (sym k.2),
  path_of net link xs record {
    inside = λ k h. a.inside (suc k) (omega (arith, h));
    once = λ i j e h same. a.once (suc i) (suc j) (omega (arith, e)) (omega (arith, h)) same;
  },
)
  where
    inside_of : x.port < length net.ports.items → x.port < length (flat (routes_of net)).servers
    inside_of h = let count = length-map net.ports.items server_of in omega (arith, count, h)

-- ---- and how they hang together
hangs_of : (link : Link) (done rest : List Node) → link.nodes.items ≡ done ++ rest
    → ((place : ℕ) → place < length link.nodes.items → HangsBefore place (node_at link place).from)
    → EachHangs (map (node_of link) done) (map (node_of link) rest)
hangs_of link done [] e h = tt
hangs_of link done (x ∷ rest) e h =
    let P : List trees.Node → Type 0 = λ ns. EachHangs ns (map (node_of link) rest) in (
      first x.from refl,
      subst P (map-append (node_of link) done (x ∷ [])) (hangs_of link (done ++ x ∷ []) rest (e ∙ sym (append_assoc done (x ∷ []) rest)) h),
    )
  where
    long : length link.nodes.items ≡ length done + suc (length rest)
    long = ap length e ∙ length-append done (x ∷ rest)

    at : node_at link (length done) ≡ x
    at = ap (λ ns. get_or ns (length done) no_node) e ∙ get_or_at done x rest no_node (length done) refl

    hangs : HangsBefore (length done) x.from
    hangs =
        let Q : Node → Type 0 = λ n. HangsBefore (length done) n.from in
        subst Q at (h (length done) (omega (arith, long)))

    none : (ns : List Node) → length ns ≡ 0 → map (node_of link) ns ≡ []
    none [] same = refl
    none (n ∷ ns) same = absurd (omega (arith, same))

    first : (from : Option ℕ) → x.from ≡ from → HangsOn (port_before link x.from) (map (node_of link) done)
    first None same =
        let Q : Option ℕ → Type 0 = λ f. HangsBefore (length done) f in
        let R : Option ℕ → Type 0 = λ f. HangsOn (port_before link f) (map (node_of link) done) in
        subst R (sym same) (none done (subst Q same hangs))
    first (Some place) same =
        let Q : Option ℕ → Type 0 = λ f. HangsBefore (length done) f in
        let R : Option ℕ → Type 0 = λ f. HangsOn (port_before link f) (map (node_of link) done) in
        let S : ℕ → Type 0 = λ s. PassesServer s (hops_in (map (node_of link) done)) in
        let early = subst Q same hangs in
        let port = ap (λ (n : Node). n.port) (sym (get_or_append_left done (x ∷ rest) no_node place early) ∙ ap (λ ns. get_or ns place no_node) (sym e)) in
        subst R (sym same) (subst S port (at_passes link done place early))

-- ---- all of them
tree_of_one : (net : Network) (i : ℕ) (link : Link) → IsNetwork net → IsLink net link → tree_of (routes_of net) i ≡ tree_of_link link → IsTree (routes_of net) i
tree_of_one net i link w l e =
    let P : Tree → Type 0 = λ t. IsPath (flat (routes_of net)) (hops_in t.nodes) in
    let H : Tree → Type 0 = λ t. EachHangs [] t.nodes in
    record {
      servers = subst P (sym e) (path_of net link link.nodes.items record {
        inside = λ k h. (l.nodes k h).port;
        once = l.once;
      });
      hangs = subst H (sym e) (hangs_of link [] link.nodes.items refl (λ place h. (l.nodes place h).hangs));
    }

pub are_trees : NetworksAreTrees
are_trees net w i live =
    elim (cases_lt i (length net.links.items)) [
      | inl h ↦ by_link (slice_get net.links.items i) refl h
      | inr h ↦ absurd (no_tree net i h live)
    ]
  where
    by_link : (o : Option Link) → slice_get net.links.items i ≡ o → i < length net.links.items → IsTree (routes_of net) i
    by_link None e h =
        let past = slice_get_cases net.links.items i in
        elim past.1 [
          | inl found ↦ absurd (let f : None ≡ Some found.0 = sym e ∙ found.2 in cc)
          | inr over ↦ absurd (omega (arith, over.0, h))
        ]
    by_link (Some link) e h =
        let is = get_or_from_slice_get net.links.items i link link e in
        let L : Link → Type 0 = λ l. IsLink net l in
        tree_of_one net i link w (subst L is (w.links i link h)) (tree_at net i link h (sym is))
