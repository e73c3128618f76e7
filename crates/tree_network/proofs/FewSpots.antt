-- How many spots there are at most: a link passes no port twice.
use Rattle.std.proofs.Common.{◌≡◌, ℕ, zero, suc, ◌<◌, ◌≤◌, ◌+◌, ◌*◌, length, map, refl, sym, ◌∙◌, ap, subst, arith, length-append, Option, Some, None, inl, inr}
use Rattle.std.specs.Prelude.{slice_get}
use Rattle.std.proofs.lemmas.List.{get_or-map, length-map}
use Rattle.std.proofs.lemmas.Option.{slice_get_within, get_or_from_slice_get, slice_get_cases}
use Rattle.tree_network.specs.Networks.{IsNetwork, IsLink, no_node}
use Rattle.tree_network.specs.declared.network.Link.{Link}
use Rattle.tree_network.specs.declared.network.Network.{Network}
use Rattle.tree_network.specs.declared.network.Node.{Node}
use Rattle.tree_network.specs.Spots.{spots_in, spots_below}
use Rattle.tree_network.proofs.Distinct.{few}
use Rattle.tree_network.proofs.SpotLists.{in_length, below_zero, below_more}

-- a link has no more nodes than there are ports
pub few_nodes : (net : Network) (link : Link) → IsLink net link → length link.nodes.items ≤ length net.ports.items
few_nodes net link l =
    let port : Node → ℕ = λ n. n.port in
    let nodes = link.nodes.items in
    let count = length-map nodes port in
    let most = few (map port nodes) (length net.ports.items)
    record {
      once = λ i j early h same. l.once i j early (omega (arith, count, h))
          (sym (get_or-map port nodes i no_node 0 (omega (arith, count, early, h))) ∙ same ∙ get_or-map port nodes j no_node 0 (omega (arith, count, h)));
    }
    (λ i h.
    let inside : i < length nodes = omega (arith, count, h) in
    let is = get_or-map port nodes i no_node 0 inside in
    let lt = (l.nodes i inside).port in
    omega (arith, is, lt)) in
    omega (arith, count, most)

-- 4,096 a link
pub few_below : (net : Network) (i : ℕ) → IsNetwork net → i ≤ length net.links.items → length (spots_below net i) ≤ i * 4096
few_below net zero w h = let none = ap length (below_zero net) in omega (arith, none)
few_below net (suc i) w h =
    let next : i + 1 ≡ suc i = omega arith in
    let P : ℕ → Type 0 = λ k. length (spots_below net k) ≤ k * 4096 in
    subst P next (more (few_below net i w (omega (arith, h))) (slice_get net.links.items i) refl)
  where
    more : length (spots_below net i) ≤ i * 4096 → (o : Option Link) → slice_get net.links.items i ≡ o → length (spots_below net (i + 1)) ≤ (i + 1) * 4096
    more old None none =
        let cases = slice_get_cases net.links.items i in
        elim cases.1 [
          | inl some ↦ absurd (let f : None ≡ Some some.0 = sym none ∙ some.2 in cc)
          | inr over ↦ absurd (omega (arith, over.0, h))
        ]
    more old (Some link) e =
        let L : Link → Type 0 = λ l. IsLink net l in
        let inside = slice_get_within net.links.items i link e in
        let nodes = few_nodes net link (subst L (get_or_from_slice_get net.links.items i link link e) (w.links i link inside)) in
        let all = ap length (below_more net i link e) in
        let both = length-append (spots_below net i) (spots_in i (length (spots_below net i)) link (length link.nodes.items)) in
        let own = in_length i (length (spots_below net i)) link (length link.nodes.items) in
        omega (arith, old, nodes, all, both, own, w.few_ports)
