-- The spots of a group of a queue are those of the links of a part: one for each link, in the links' order.
use Rattle.std.proofs.Common.{◌≡◌, ◌≢◌, ℕ, zero, suc, ◌<◌, ◌≤◌, ◌+◌, ◌==◌, ◌&&◌, ◌⊎◌, Bool, true, false, cond, Option, Some, None, List, [], ◌∷◌, ◌++◌, length, get_or, map, if◌then◌else◌, refl, sym, ◌∙◌, ap, subst, arith, inl, inr, length-append, append-nil}
use Rattle.std.specs.Prelude.{slice_get}
use Rattle.std.proofs.lemmas.Bool.{cases_eq, cases_lt}
use Rattle.std.proofs.lemmas.List.{map-append}
use Rattle.std.proofs.lemmas.Option.{get_or_from_slice_get, slice_get_cases}
use Rattle.run_laws.specs.Routes.{Route}
use Rattle.run_laws.specs.Totals.{is_on}
use Rattle.net_laws.specs.paces.Groups.{part_number}
use Rattle.tree_runs.specs.Trees.{Tree, tree_of, flat_tree, hops_in, tree_server_before}
use Rattle.tree_runs.specs.Parts.{is_of_tree_part}
use Rattle.tree_runs.proofs.Trees.{route_is}
use Rattle.tree_network.specs.Networks.{IsNetwork, IsLink, node_at, no_node}
use Rattle.tree_network.specs.declared.network.Link.{Link}
use Rattle.tree_network.specs.declared.network.Network.{Network}
use Rattle.tree_network.specs.declared.network.Node.{Node}
use Rattle.tree_network.specs.declared.spots.Spot.{Spot}
use Rattle.tree_network.specs.Spots.{spots_in, spots_below, spots_of, source_in}
use Rattle.tree_network.specs.Lists.{those}
use Rattle.tree_network.proofs.Those.{eq_true, eq_false, of_eq, those_yes, those_no}
use Rattle.tree_network.proofs.SpotLists.{in_length, below_more, below_zero}
use Rattle.tree_bounds.specs.Groups.{is_in_group, spots_in_group}
use Rattle.tree_bounds.specs.guarantee.Routes.{routes_of, tree_of_link, node_of, port_before}
use Rattle.tree_bounds.proofs.guarantee.TreesOf.{tree_at}
use Rattle.tree_bounds.proofs.guarantee.Forward.{spot_found}

-- ---- numbers that pass a test, some more
none_more : (test : ℕ → Bool) (a m : ℕ) → ((p : ℕ) → p < m → test (a + p) ≡ false) → those test (a + m) ≡ those test a
none_more test a zero h = let e : a + 0 ≡ a = omega arith in ap (those test) e
none_more test a (suc m) h =
    let e : a + suc m ≡ suc (a + m) = omega arith in
    ap (those test) e ∙ those_no test (a + m) (h m (omega arith)) ∙ none_more test a m (λ p lt. h p (omega (arith, lt)))

one_more : (test : ℕ → Bool) (a m place : ℕ) → place < m → test (a + place) ≡ true → ((p : ℕ) → p < m → p ≢ place → test (a + p) ≡ false)
    → those test (a + m) ≡ those test a ++ (a + place) ∷ []
one_more test a zero place h hit miss = absurd (omega (arith, h))
one_more test a (suc m) place h hit miss =
    let e : a + suc m ≡ suc (a + m) = omega arith in
    ap (those test) e ∙ elim (cases_eq place m) [
      | inl same ↦
          let P : ℕ → Type 0 = λ k. test (a + k) ≡ true in
          let before = none_more test a m (λ p lt. miss p (omega (arith, lt)) (λ f. absurd (omega (arith, f, lt, same)))) in
          those_yes test (a + m) (subst P same hit) ∙ ap (λ l. l ++ (a + m) ∷ []) before
          ∙ ap (λ k. those test a ++ (a + k) ∷ []) (sym same)
      | inr other ↦
          those_no test (a + m) (miss m (omega arith) (λ f. other (sym f)))
          ∙ one_more test a m place (omega (arith, h, other)) hit (λ p lt apart. miss p (omega (arith, lt)) apart)
    ]

-- ---- where a link has a port
abbrev pub place_of : ℕ → List Node → ℕ
place_of s [] = 0
place_of s (x ∷ xs) = if x.port == s then 0 else suc (place_of s xs)

-- a tree's list has the port, at the place
pub record HasPort (link : Link) (s q : ℕ) (xs : List Node) : Type 0 where
  pub inside : place_of s xs < length xs
  pub port : (get_or xs (place_of s xs) no_node).port ≡ s
  pub queue : is_on s q (hops_in (map (node_of link) xs)) ≡ ((get_or xs (place_of s xs) no_node).queue == q)
  pub from : tree_server_before s (map (node_of link) xs) ≡ port_before link (get_or xs (place_of s xs) no_node).from

pub record LacksPort (link : Link) (s q : ℕ) (xs : List Node) : Type 0 where
  pub none : (p : ℕ) → p < length xs → (get_or xs p no_node).port ≢ s
  pub off : is_on s q (hops_in (map (node_of link) xs)) ≡ false

pub has_or_lacks : (link : Link) (s q : ℕ) (xs : List Node) → HasPort link s q xs ⊎ LacksPort link s q xs
has_or_lacks link s q [] = inr record { none = λ p h. absurd (omega (arith, h)); off = refl }
has_or_lacks link s q (x ∷ xs) = by_first (has_or_lacks link s q xs) (x.port == s) refl
  where
    here : (x.port == s) ≡ true → HasPort link s q (x ∷ xs)
    here e =
        let z : place_of s (x ∷ xs) ≡ 0 = rw e refl in
        record {
          inside = omega (arith, z);
          port = rw e (of_eq x.port s e);
          queue = rw e refl;
          from = rw e refl;
        }

    there : (x.port == s) ≡ false → HasPort link s q xs → HasPort link s q (x ∷ xs)
    there e h =
        let z : place_of s (x ∷ xs) ≡ suc (place_of s xs) = rw e refl in
        record {
          inside = omega (arith, z, h.inside);
          port = rw e h.port;
          queue = rw e h.queue;
          from = rw e h.from;
        }

    nowhere : (x.port == s) ≡ false → LacksPort link s q xs → LacksPort link s q (x ∷ xs)
    nowhere e l = record { none = at; off = rw e l.off }
      where
        at : (p : ℕ) → p < suc (length xs) → (get_or (x ∷ xs) p no_node).port ≢ s
        at zero h = λ f. let t : true ≡ false = sym (eq_true x.port s f) ∙ e in absurd (cc)
        at (suc p) h = l.none p (omega (arith, h))

    by_first : HasPort link s q xs ⊎ LacksPort link s q xs → (c : Bool) → (x.port == s) ≡ c → HasPort link s q (x ∷ xs) ⊎ LacksPort link s q (x ∷ xs)
    by_first r true e = inl (here e)
    by_first (inl h) false e = inl (there e h)
    by_first (inr l) false e = inr (nowhere e l)

-- ---- of a link of the network
abbrev pub nodes_in : Option Link → List Node
nodes_in None = []
nodes_in (Some link) = link.nodes.items

-- the number of the spot of link i at port s
abbrev pub number_at : Network → ℕ → ℕ → ℕ
number_at net s i = length (spots_below net i) + place_of s (nodes_in (slice_get net.links.items i))

pub source_is : (link : Link) (from : Option ℕ) → source_in link from ≡ part_number (port_before link from)
source_is link None = refl
source_is link (Some from) = omega arith

-- a link is of a part as its tree has the port
pub in_part : (net : Network) (i s q k : ℕ) (link : Link) → tree_of (routes_of net) i ≡ tree_of_link link
    → is_of_tree_part (routes_of net) s q k i
    ≡ (is_on s q (hops_in (map (node_of link) link.nodes.items)) && (part_number (tree_server_before s (map (node_of link) link.nodes.items)) == k))
in_part net i s q k link e =
    let T : Route → Tree → Bool = λ r t. (r.live && is_on s q r.hops) && (part_number (tree_server_before s t.nodes) == k) in
    ap (λ r. T r (tree_of (routes_of net) i)) (route_is (routes_of net) i ∙ ap flat_tree e) ∙ ap (λ t. T (flat_tree (tree_of_link link)) t) e

-- the test at a spot of the link
at_spot : (net : Network) (i s q k p : ℕ) (link : Link) → slice_get net.links.items i ≡ Some link → i < length net.links.items → p < length link.nodes.items
    → is_in_group (spots_of net) s q k (length (spots_below net i) + p)
    ≡ (((source_in link (node_at link p).from == k) && ((node_at link p).port == s)) && ((node_at link p).queue == q))
at_spot net i s q k p link e l h =
    let at = spot_found net i (length net.links.items) link p e h l (omega arith) in
    ap (λ (x : Spot). ((x.source == k) && (x.port == s)) && (x.queue == q)) at.1

both_ways : (a b : Bool) → ((a && true) && b) ≡ (b && a)
both_ways true true = refl
both_ways true false = refl
both_ways false true = refl
both_ways false false = refl

never : (a b : Bool) → ((a && false) && b) ≡ false
never true b = refl
never false b = refl

abbrev OneMore : Network → (s q k i : ℕ) → Type 0
OneMore net s q k i =
    those (is_in_group (spots_of net) s q k) (length (spots_below net (i + 1)))
    ≡ those (is_in_group (spots_of net) s q k) (length (spots_below net i)) ++ cond (is_of_tree_part (routes_of net) s q k i) (number_at net s i ∷ []) []

one_link : (net : Network) (i s q k : ℕ) (link : Link) → IsLink net link → slice_get net.links.items i ≡ Some link → i < length net.links.items
    → tree_of (routes_of net) i ≡ tree_of_link link → OneMore net s q k i
one_link net i s q k link w e l t = ap (those test) long ∙ by_port (has_or_lacks link s q xs)
  where
    xs : List Node
    xs = link.nodes.items

    a : ℕ
    a = length (spots_below net i)

    test : ℕ → Bool
    test = is_in_group (spots_of net) s q k

    part : Bool
    part = is_of_tree_part (routes_of net) s q k i

    long : length (spots_below net (i + 1)) ≡ a + length xs
    long = ap length (below_more net i link e) ∙ length-append (spots_below net i) (spots_in i a link (length xs)) ∙ ap (λ n. a + n) (in_length i a link (length xs))

    number : number_at net s i ≡ a + place_of s xs
    number = ap (λ o. a + place_of s (nodes_in o)) e

    elsewhere : (p : ℕ) → p < length xs → (node_at link p).port ≢ s → test (a + p) ≡ false
    elsewhere p h other =
        at_spot net i s q k p link e l h
        ∙ ap (λ b. ((source_in link (node_at link p).from == k) && b) && ((node_at link p).queue == q)) (eq_false (node_at link p).port s other)
        ∙ never (source_in link (node_at link p).from == k) ((node_at link p).queue == q)

    Goal : Bool → Type 0
    Goal b = those test (a + length xs) ≡ those test a ++ cond b (number_at net s i ∷ []) []

    there : HasPort link s q xs → test (a + place_of s xs) ≡ part
    there h =
        let p = place_of s xs in
        at_spot net i s q k p link e l h.inside
        ∙ ap (λ b. ((source_in link (node_at link p).from == k) && b) && ((node_at link p).queue == q)) (eq_true (node_at link p).port s h.port)
        ∙ both_ways (source_in link (node_at link p).from == k) ((node_at link p).queue == q)
        ∙ ap (λ n. ((node_at link p).queue == q) && (n == k)) (source_is link (node_at link p).from)
        ∙ ap (λ f. ((node_at link p).queue == q) && (part_number f == k)) (sym h.from)
        ∙ ap (λ b. b && (part_number (tree_server_before s (map (node_of link) xs)) == k)) (sym h.queue)
        ∙ sym (in_part net i s q k link t)

    apart : HasPort link s q xs → (p : ℕ) → p < length xs → p ≢ place_of s xs → (node_at link p).port ≢ s
    apart h p lt other = λ same. elim (cases_lt p (place_of s xs)) [
      | inl less ↦ w.once p (place_of s xs) less h.inside (same ∙ sym h.port)
      | inr more ↦ w.once (place_of s xs) p (omega (arith, more, other)) lt (h.port ∙ sym same)
    ]

    by_test : HasPort link s q xs → (b : Bool) → part ≡ b → Goal b
    by_test h true f =
        one_more test a (length xs) (place_of s xs) h.inside (there h ∙ f) (λ p lt other. elsewhere p lt (apart h p lt other))
        ∙ ap (λ n. those test a ++ n ∷ []) (sym number)
    by_test h false f = none_more test a (length xs) (λ p lt. by_place p lt (cases_eq p (place_of s xs))) ∙ sym (append-nil (those test a))
      where
        by_place : (p : ℕ) → p < length xs → (p ≡ place_of s xs) ⊎ (p ≢ place_of s xs) → test (a + p) ≡ false
        by_place p lt (inl same) = ap (λ n. test (a + n)) same ∙ there h ∙ f
        by_place p lt (inr other) = elsewhere p lt (apart h p lt other)

    by_port : HasPort link s q xs ⊎ LacksPort link s q xs → Goal part
    by_port (inl h) = by_test h part refl
    by_port (inr m) =
        let off : part ≡ false = in_part net i s q k link t ∙ ap (λ b. b && (part_number (tree_server_before s (map (node_of link) xs)) == k)) m.off in
        subst Goal (sym off) (none_more test a (length xs) (λ p lt. elsewhere p lt (m.none p lt)) ∙ sym (append-nil (those test a)))

-- ---- of all links
map_one : (f : ℕ → ℕ) (b : Bool) (i : ℕ) → cond b (f i ∷ []) [] ≡ map f (cond b (i ∷ []) [])
map_one f true i = refl
map_one f false i = refl

gathered_below : (net : Network) (s q k n : ℕ) → IsNetwork net → n ≤ length net.links.items
    → those (is_in_group (spots_of net) s q k) (length (spots_below net n)) ≡ map (number_at net s) (those (is_of_tree_part (routes_of net) s q k) n)
unfolding those
gathered_below net s q k zero w few = let e : length (spots_below net 0) ≡ 0 = ap length (below_zero net) in ap (those (is_in_group (spots_of net) s q k)) e
gathered_below net s q k (suc n) w few = by_link (gathered_below net s q k n w (omega (arith, few))) (slice_get net.links.items n) refl
  where
    tests : ℕ → Bool
    tests = is_of_tree_part (routes_of net) s q k

    next : length (spots_below net (suc n)) ≡ length (spots_below net (n + 1))
    next = let e : suc n ≡ n + 1 = omega arith in ap (λ m. length (spots_below net m)) e

    Below : ℕ → Type 0
    Below m = those (is_in_group (spots_of net) s q k) (length (spots_below net m)) ≡ map (number_at net s) (those tests m)

    by_link : Below n → (o : Option Link) → slice_get net.links.items n ≡ o
        → those (is_in_group (spots_of net) s q k) (length (spots_below net (suc n))) ≡ map (number_at net s) (those tests n ++ cond (tests n) (n ∷ []) [])
    by_link before None e =
        let past = slice_get_cases net.links.items n in
        elim past.1 [
          | inl found ↦ absurd (let f : None ≡ Some found.0 = sym e ∙ found.2 in cc)
          | inr over ↦ absurd (omega (arith, over.0, few))
        ]
    by_link before (Some link) e =
        let l : n < length net.links.items = omega (arith, few) in
        let is = get_or_from_slice_get net.links.items n link link e in
        let L : Link → Type 0 = λ x. IsLink net x in
        ap (those (is_in_group (spots_of net) s q k)) next
        ∙ one_link net n s q k link (subst L is (w.links n link l)) e l (tree_at net n link l (sym is))
        ∙ ap (λ xs. xs ++ cond (tests n) (number_at net s n ∷ []) []) before
        ∙ ap (λ xs. map (number_at net s) (those tests n) ++ xs) (map_one (number_at net s) (tests n) n)
        ∙ sym (map-append (number_at net s) (those tests n) (cond (tests n) (n ∷ []) []))

pub gathered : (net : Network) (s q k : ℕ) → IsNetwork net
    → spots_in_group (spots_of net) s q k ≡ map (number_at net s) (those (is_of_tree_part (routes_of net) s q k) (length net.links.items))
gathered net s q k w = gathered_below net s q k (length net.links.items) w (omega arith)
