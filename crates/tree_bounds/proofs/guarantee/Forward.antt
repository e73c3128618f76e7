-- Where the ports have an order in which no link goes back, the trees of runs go forward.
use Rattle.std.proofs.Common.{◌≡◌, ℕ, zero, suc, ◌<◌, ◌≤◌, ◌+◌, ◌==◌, Bool, true, false, Option, Some, None, List, [], ◌∷◌, ◌++◌, length, get_or, map, if◌then◌else◌, refl, sym, ◌∙◌, ap, subst, arith, inl, inr, length-append}
use Rattle.std.specs.Prelude.{slice_get}
use Rattle.std.proofs.lemmas.Bool.{cases_eq, cases_lt}
use Rattle.std.proofs.lemmas.List.{get_or_append_left, get_or-append-add}
use Rattle.std.proofs.lemmas.Option.{get_or_from_slice_get, slice_get_cases}
use Rattle.tree_runs.specs.Trees.{Tree, tree_of, tree_server_before, Hangs}
use Rattle.tree_network.specs.Networks.{IsNetwork, node_at, no_node}
use Rattle.tree_network.specs.declared.network.Link.{Link}
use Rattle.tree_network.specs.declared.network.Network.{Network}
use Rattle.tree_network.specs.declared.network.Node.{Node}
use Rattle.tree_network.specs.declared.spots.Spot.{Spot}
use Rattle.tree_network.specs.Spots.{no_spot, spot_of, spots_in, spots_below, spots_of, source_in}
use Rattle.tree_network.specs.Orders.{StandsAt, GoesTo}
use Rattle.tree_network.proofs.Those.{eq_true, of_eq}
use Rattle.tree_network.proofs.SpotLists.{in_length, in_at, below_more}
use Rattle.tree_network.proofs.InRange.{in_range}
use Rattle.tree_bounds.specs.guarantee.Routes.{routes_of, node_of, port_before, OrdersGoForward}
use Rattle.tree_bounds.proofs.guarantee.TreesOf.{tree_at, no_tree}

-- within a list of links each number has one
pub no_gap : (links : List Link) (i : ℕ) → slice_get links i ≡ None → i < length links → ⊥
no_gap links i e l =
    let past = slice_get_cases links i in
    elim past.1 [
      | inl found ↦ absurd (let f : None ≡ Some found.0 = sym e ∙ found.2 in cc)
      | inr over ↦ absurd (omega (arith, over.0, l))
    ]

-- ---- where a spot stands
-- there are the spots of each link, in order
pub spot_found : (net : Network) (i m : ℕ) (link : Link) (k : ℕ) → slice_get net.links.items i ≡ Some link → k < length link.nodes.items → i < m → m ≤ length net.links.items
    → (length (spots_below net i) + k < length (spots_below net m))
    × (get_or (spots_below net m) (length (spots_below net i) + k) no_spot ≡ spot_of i (length (spots_below net i)) link k)
spot_found net i zero link k e h early few = absurd (omega (arith, early))
spot_found net i (suc m) link k e h early few =
    by_place (λ less. spot_found net i m link k e h less (omega (arith, few))) (slice_get net.links.items m) refl
  where
    xs : List Spot
    xs = spots_below net i

    next : m + 1 ≡ suc m
    next = omega arith

    Found : List Spot → Type 0
    Found ys = (length xs + k < length ys) × (get_or ys (length xs + k) no_spot ≡ spot_of i (length xs) link k)

    more : (i < m → Found (spots_below net m)) → (other : Link) → slice_get net.links.items m ≡ Some other → Found (spots_below net (m + 1))
    more before other is =
        let ys = spots_below net m in
        let zs = spots_in m (length ys) other (length other.nodes.items) in
        let count = length-append ys zs in
        let few_zs = in_length m (length ys) other (length other.nodes.items) in
        subst Found (sym (below_more net m other is)) (
        elim (cases_eq i m) [
          | inl same ↦
              let P : ℕ → Type 0 = λ j. slice_get net.links.items j ≡ Some link in
              let here : Some link ≡ Some other = sym (subst P same e) ∙ is in
              let one : link ≡ other = cc in
              let xy : length xs ≡ length ys = ap (λ j. length (spots_below net j)) same in
              let nodes = ap (λ (l : Link). length l.nodes.items) one in
              let at = get_or-append-add ys zs k no_spot ∙ in_at m (length ys) other (length other.nodes.items) k (omega (arith, h, nodes)) in (
                omega (arith, count, few_zs, h, nodes, xy),
                ap (λ j. get_or (ys ++ zs) (j + k) no_spot) xy ∙ at
                    ∙ ap (λ j. spot_of j (length ys) other k) (sym same) ∙ ap (λ j. spot_of i j other k) (sym xy) ∙ ap (λ l. spot_of i (length xs) l k) (sym one),
              )
          | inr less ↦
              let old = before (omega (arith, early, less)) in
              (omega (arith, count, old.0), get_or_append_left ys zs no_spot (length xs + k) old.0 ∙ old.1)
        ])

    by_place : (i < m → Found (spots_below net m)) → (o : Option Link) → slice_get net.links.items m ≡ o → Found (spots_below net (suc m))
    by_place before None is = absurd (no_gap net.links.items m is (omega (arith, few)))
    by_place before (Some other) is = let P : ℕ → Type 0 = λ j. Found (spots_below net j) in subst P next (more before other is)

-- ---- what hangs on what
pub record HangsAt (link : Link) (xs : List Node) (a b : ℕ) : Type 0 where
  pub place : ℕ
  pub inside : place < length xs
  pub port : (get_or xs place no_node).port ≡ b
  pub before : port_before link (get_or xs place no_node).from ≡ Some a

pub hangs_at : (link : Link) (xs : List Node) (a b : ℕ) → tree_server_before b (map (node_of link) xs) ≡ Some a → HangsAt link xs a b
hangs_at link [] a b e = absurd (let f : None ≡ Some a = e in cc)
hangs_at link (x ∷ xs) a b e = by_port (hangs_at link xs a b) (x.port == b) refl
  where
    by_port : (tree_server_before b (map (node_of link) xs) ≡ Some a → HangsAt link xs a b) → (c : Bool) → (x.port == b) ≡ c → HangsAt link (x ∷ xs) a b
    by_port later true is = record {
      place = 0;
      inside = omega arith;
      port = of_eq x.port b is;
      before = sym (ap (λ c. if c then port_before link x.from else tree_server_before b (map (node_of link) xs)) is) ∙ e;
    }
    by_port later false is =
        let rest = later (sym (ap (λ c. if c then port_before link x.from else tree_server_before b (map (node_of link) xs)) is) ∙ e) in
        record { place = suc rest.place; inside = omega (arith, rest.inside); port = rest.port; before = rest.before }

source_before : (link : Link) (from : Option ℕ) (a : ℕ) → port_before link from ≡ Some a → source_in link from ≡ suc a
source_before link None a e = absurd (let f : None ≡ Some a = e in cc)
source_before link (Some q) a e = let same : (node_at link q).port ≡ a = cc in omega (arith, same)

pub goes_where_hangs : (net : Network) (i a b : ℕ) → IsNetwork net → (tree_of (routes_of net) i).live ≡ true → Hangs (routes_of net) i a b → GoesTo (spots_of net) a b
goes_where_hangs net i a b w live h =
    elim (cases_lt i (length net.links.items)) [
      | inl l ↦ by_link (slice_get net.links.items i) refl l
      | inr l ↦ absurd (no_tree net i l live)
    ]
  where
    by_link : (o : Option Link) → slice_get net.links.items i ≡ o → i < length net.links.items → GoesTo (spots_of net) a b
    by_link None e l = absurd (no_gap net.links.items i e l)
    by_link (Some link) e l =
        let is = get_or_from_slice_get net.links.items i link link e in
        let P : Tree → Type 0 = λ t. tree_server_before b t.nodes ≡ Some a in
        let hang = hangs_at link link.nodes.items a b (subst P (tree_at net i link l (sym is)) h) in
        let at = spot_found net i (length net.links.items) link hang.place e hang.inside l (omega arith) in
        record {
          spot = length (spots_below net i) + hang.place;
          inside = at.0;
          from = ap (λ (s : Spot). s.source) at.1 ∙ source_before link (node_at link hang.place).from a hang.before;
          to = ap (λ (s : Spot). s.port) at.1 ∙ hang.port;
        }

-- ---- places
place_in : List ℕ → ℕ → ℕ
place_in [] s = 0
place_in (x ∷ xs) s = if x == s then 0 else suc (place_in xs s)

place_is : (xs : List ℕ) (s i : ℕ) → StandsAt xs s i → StandsAt xs s (place_in xs s)
unfolding place_in
place_is [] s i st = absurd (omega (arith, st.inside))
place_is (x ∷ xs) s zero st =
    let hit = eq_true x s st.is in
    rw hit record { inside = omega arith; is = st.is }
place_is (x ∷ xs) s (suc k) st = by_first (place_is xs s k record { inside = omega (arith, st.inside); is = st.is }) (x == s) refl
  where
    by_first : StandsAt xs s (place_in xs s) → (c : Bool) → (x == s) ≡ c → StandsAt (x ∷ xs) s (if x == s then 0 else suc (place_in xs s))
    by_first r true e = rw e record { inside = omega arith; is = of_eq x s e }
    by_first r false e = rw e record { inside = omega (arith, r.inside); is = r.is }

pub go_forward : OrdersGoForward
go_forward net order w o = (place_in order, forward)
  where
    forward : (i a b : ℕ) → (tree_of (routes_of net) i).live ≡ true → Hangs (routes_of net) i a b → place_in order a < place_in order b
    forward i a b live h =
        let g = goes_where_hangs net i a b w live h in
        let s = (in_range net w).each g.spot g.inside in
        let ea = o.every a (let le = s.source in omega (arith, le, g.from)) in
        let eb = o.every b (let lt = s.port in omega (arith, lt, g.to)) in
        let sa = place_is order a ea.0 ea.1 in
        let sb = place_is order b eb.0 eb.1 in
        let P : ℕ → Type 0 = λ m. GoesTo (spots_of net) m (get_or order (place_in order b) 0) in
        let Q : ℕ → Type 0 = λ m. GoesTo (spots_of net) a m in
        o.forward (place_in order a) (place_in order b) (omega (arith, sa.inside, o.count)) (omega (arith, sb.inside, o.count))
        (subst P (sym sa.is) (subst Q (sym sb.is) g))
