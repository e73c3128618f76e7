-- The spots of a network in range.
use Rattle.std.proofs.Common.{◌≡◌, ℕ, zero, suc, ◌<◌, ◌≤◌, ◌+◌, ◌-◌, List, ◌++◌, length, get_or, refl, sym, ◌∙◌, ap, subst, arith, inl, inr, length-append, Option, Some, None}
use Rattle.std.specs.Prelude.{slice_get}
use Rattle.std.proofs.lemmas.Bool.{cases_lt}
use Rattle.std.proofs.lemmas.List.{get_or_append_left, get_or-append-add}
use Rattle.std.proofs.lemmas.Option.{slice_get_within, get_or_from_slice_get, slice_get_cases}
use Rattle.tree_network.specs.Networks.{IsNetwork, IsLink, node_at, HangsBefore}
use Rattle.tree_network.specs.declared.network.Link.{Link}
use Rattle.tree_network.specs.declared.network.Network.{Network}
use Rattle.tree_network.specs.declared.spots.Spot.{Spot}
use Rattle.tree_network.specs.Spots.{no_spot, spot_at, spot_of, spots_in, spots_below, ComesFrom, IsSpot, AreSpots, SpotsAreInRange, source_in, number_before}
use Rattle.tree_network.proofs.SpotLists.{in_length, in_at, below_zero, below_more}

-- ---- more spots behind
comes_more : (xs ys : List Spot) (spot : Spot) (n k : ℕ) → n < length xs → ComesFrom xs spot n k → ComesFrom (xs ++ ys) spot n k
comes_more xs ys spot n zero h c = c
comes_more xs ys spot n (suc a) h c =
    let same = get_or_append_left xs ys no_spot spot.from (omega (arith, c.0, h)) in
    (c.0, ap (λ s. s.port) same ∙ c.1, ap (λ s. s.link) same ∙ c.2)

more_behind : (net : Network) (xs ys : List Spot) (n : ℕ) (spot : Spot) → n < length xs → IsSpot net xs n spot → IsSpot net (xs ++ ys) n spot
more_behind net xs ys n spot h s = record {
  link = s.link;
  port = s.port;
  queue = s.queue;
  some_frame = s.some_frame;
  frame = s.frame;
  source = s.source;
  comes = comes_more xs ys spot n spot.source h s.comes;
}

-- ---- those of one link
new_comes : (xs : List Spot) (i : ℕ) (link : Link) (n place : ℕ) (from : Option ℕ) → place < n → HangsBefore place from
    → (spot : Spot) → spot.link ≡ i → spot.from ≡ number_before (length xs) place from
    → ComesFrom (xs ++ spots_in i (length xs) link n) spot (length xs + place) (source_in link from)
new_comes xs i link n place None h hangs spot el ef = ef
new_comes xs i link n place (Some from) h hangs spot el ef =
    let few = in_length i (length xs) link n in
    let next : (node_at link from).port + 1 ≡ suc (node_at link from).port = omega arith in
    let P : ℕ → Type 0 = λ k. ComesFrom (xs ++ spots_in i (length xs) link n) spot (length xs + place) k in
    let at = ap (λ k. get_or (xs ++ spots_in i (length xs) link n) k no_spot) ef
    ∙ get_or-append-add xs (spots_in i (length xs) link n) from no_spot
    ∙ in_at i (length xs) link n from (omega (arith, h, hangs)) in
    subst P (sym next) (omega (arith, ef, hangs), ap (λ s. s.port) at, ap (λ s. s.link) at ∙ sym el)

new_spot : (net : Network) (xs : List Spot) (i : ℕ) (link : Link) (place : ℕ) → IsNetwork net → i < length net.links.items → IsLink net link → place < length link.nodes.items
    → IsSpot net (xs ++ spots_in i (length xs) link (length link.nodes.items)) (length xs + place) (spot_of i (length xs) link place)
new_spot net xs i link place w inside l h =
    let node = l.nodes place h in
    record {
      link = inside;
      port = node.port;
      queue = node.queue;
      some_frame = l.some_frame;
      frame = l.frame;
      source = small (node_at link place).from node.hangs;
      comes = new_comes xs i link (length link.nodes.items) place (node_at link place).from h node.hangs (spot_of i (length xs) link place) refl refl;
    }
  where
    small : (from : Option ℕ) → HangsBefore place from → source_in link from ≤ length net.ports.items
    small None e = omega arith
    small (Some from) e = let lt = (l.nodes from (omega (arith, e, h))).port in omega (arith, lt)

-- ---- those of the first links
below_in_range : (net : Network) (i : ℕ) → IsNetwork net → i ≤ length net.links.items → AreSpots net (spots_below net i)
below_in_range net zero w h =
    let P : List Spot → Type 0 = λ xs. AreSpots net xs in
    subst P (sym (below_zero net)) record { each = λ n lt. absurd (omega (arith, lt)) }
below_in_range net (suc i) w h =
    let next : i + 1 ≡ suc i = omega arith in
    let P : ℕ → Type 0 = λ k. AreSpots net (spots_below net k) in
    subst P next (more (below_in_range net i w (omega (arith, h))) (slice_get net.links.items i) refl)
  where
    xs : List Spot
    xs = spots_below net i

    more : AreSpots net xs → (o : Option Link) → slice_get net.links.items i ≡ o → AreSpots net (spots_below net (i + 1))
    more old None e =
        let past = slice_get_cases net.links.items i in
        elim past.1 [
          | inl found ↦ absurd (let f : None ≡ Some found.0 = sym e ∙ found.2 in cc)
          | inr over ↦ absurd (omega (arith, over.0, h))
        ]
    more old (Some link) e =
        let P : List Spot → Type 0 = λ ys. AreSpots net ys in
        let L : Link → Type 0 = λ l. IsLink net l in
        let inside = slice_get_within net.links.items i link e in
        let l = subst L (get_or_from_slice_get net.links.items i link link e) (w.links i link inside) in
        subst P (sym (below_more net i link e)) record { each = λ n lt. by_place old link l inside n lt }
      where
        by_place : AreSpots net xs → (link : Link) → IsLink net link → i < length net.links.items → (n : ℕ)
            → n < length (xs ++ spots_in i (length xs) link (length link.nodes.items))
            → IsSpot net (xs ++ spots_in i (length xs) link (length link.nodes.items)) n
            (spot_at (xs ++ spots_in i (length xs) link (length link.nodes.items)) n)
        by_place old link l inside n lt =
            let ys = spots_in i (length xs) link (length link.nodes.items) in
            let count = length-append xs ys in
            let few = in_length i (length xs) link (length link.nodes.items) in
            elim (cases_lt n (length xs)) [
              | inl early ↦
                  let S : Spot → Type 0 = λ s. IsSpot net (xs ++ ys) n s in
                  subst S (sym (get_or_append_left xs ys no_spot n early)) (more_behind net xs ys n (spot_at xs n) early (old.each n early))
              | inr late ↦
                  let place = n - length xs in
                  let within : place < length link.nodes.items = omega (arith, count, few, lt, late) in
                  let back : length xs + place ≡ n = omega (arith, late) in
                  let S : Spot → Type 0 = λ s. IsSpot net (xs ++ ys) (length xs + place) s in
                  let N : ℕ → Type 0 = λ m. IsSpot net (xs ++ ys) m (spot_at (xs ++ ys) m) in
                  let at = get_or-append-add xs ys place no_spot ∙ in_at i (length xs) link (length link.nodes.items) place within in
                  subst N back (subst S (sym at) (new_spot net xs i link place w inside l within))
            ]

pub in_range : SpotsAreInRange
in_range net w = below_in_range net (length net.links.items) w (omega arith)
