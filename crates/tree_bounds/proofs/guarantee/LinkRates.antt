-- The rates of links: a stair keeps its link's rate along the tree, and the groups of a queue bring the rates of the links that pass it.
use Rattle.std.proofs.Common.{◌≡◌, ◌≢◌, ◌⊎◌, ℕ, zero, suc, ◌<◌, ◌≤◌, ◌+◌, ◌*◌, ◌^◌, ◌==◌, ◌&&◌, Bool, true, false, cond, Option, Some, None, List, [], ◌∷◌, length, get_or, take, map, nat_lt, if◌then◌else◌, refl, sym, ◌∙◌, ap, subst, arith, inl, inr}
use Rattle.std.specs.Prelude.{is_some, slice_get}
use Rattle.std.specs.List.{Contains, list_all, sum_by}
use Rattle.std.specs.Int.{div_ceil}
use Rattle.std.proofs.lemmas.List.{map-append, take_all}
use Rattle.std.proofs.lemmas.List.Folds.{list_all-append, list_all-map}
use Rattle.std.proofs.lemmas.List.Sums.{sum_by-cons, sum_by-append, sum_by_more}
use Rattle.std.proofs.lemmas.Option.{get_or_from_slice_get}
use Rattle.run_laws.specs.Totals.{is_on}
use Rattle.net_laws.specs.paces.Groups.{part_number}
use Rattle.tree_runs.specs.Trees.{hops_in, tree_server_before}
use Rattle.tree_runs.specs.Parts.{is_of_tree_part}
use Rattle.arrival_lines.specs.declared.grid.Queue.{Queue}
use Rattle.arrival_stairs.specs.BelowLines.{stair_rate}
use Rattle.arrival_stairs.specs.declared.stairs.Stair.{Stair}
use Rattle.tree_network.specs.Lists.{those}
use Rattle.tree_network.specs.Networks.{IsNetwork, IsLink, IsNodeAt, HangsBefore, node_at, no_node, port_at, queues_of}
use Rattle.tree_network.specs.declared.network.Link.{Link}
use Rattle.tree_network.specs.declared.network.Network.{Network}
use Rattle.tree_network.specs.declared.network.Node.{Node}
use Rattle.tree_network.specs.declared.spots.Spot.{Spot}
use Rattle.tree_network.specs.Spots.{spot_at, spot_of, spots_below, spots_of, source_in, number_before, AreSpots, ComesFrom}
use Rattle.tree_network.proofs.InRange.{in_range}
use Rattle.tree_network.proofs.Those.{eq_true, eq_false, of_both, of_eq, those_pass, those_has, those_zero}
use Rattle.tree_bounds.specs.Equations.{MeetsEquations}
use Rattle.tree_bounds.specs.Groups.{rate_in, group_of, group_list, groups_at, part_of, spots_in_group}
use Rattle.tree_bounds.specs.Lines.{line_of, rate_of}
use Rattle.tree_bounds.specs.Stairs.{first_stair, first_stair_of, later_stair, stair_within}
use Rattle.tree_bounds.specs.declared.groups.Group.{Group}
use Rattle.tree_bounds.proofs.Bunched.{line_has}
use Rattle.tree_bounds.specs.guarantee.Loads.{brought_by, rates_at, sum_below}
use Rattle.tree_bounds.specs.guarantee.Loads as loads
use Rattle.tree_bounds.specs.guarantee.Routes.{routes_of, node_of}
use Rattle.tree_bounds.proofs.guarantee.Forward.{no_gap, spot_found}
use Rattle.tree_bounds.proofs.guarantee.Gathered.{place_of, HasPort, LacksPort, has_or_lacks, nodes_in, number_at, source_is, in_part, gathered}
use Rattle.tree_bounds.proofs.guarantee.LastSteps.{long_run_rate}
use Rattle.tree_bounds.proofs.guarantee.LoadSums.{covered, same_sums, those_more}
use Rattle.tree_bounds.proofs.guarantee.TreesOf.{tree_at}

-- ---- a link of a number: whether it passes queue q of port s, and its rate
abbrev pub passes : (s q : ℕ) → List Node → Bool
passes s q [] = false
passes s q (node ∷ nodes) = if node.port == s then node.queue == q else passes s q nodes

abbrev pub link_passes : (s q : ℕ) → Option Link → Bool
link_passes s q None = false
link_passes s q (Some link) = passes s q link.nodes.items

abbrev pub link_rate : Option Link → ℕ
link_rate None = 0
link_rate (Some link) = rate_of link

abbrev pub rate_at : Network → ℕ → ℕ
rate_at net i = link_rate (slice_get net.links.items i)

-- the rates of those that pass it
abbrev pub load_at : Network → (s q : ℕ) → ℕ
load_at net s q = sum_by (rate_at net) (those (λ i. link_passes s q (slice_get net.links.items i)) (length net.links.items))

pub record IsLinkAt (net : Network) (i : ℕ) : Type 0 where
  pub link : Link
  pub found : slice_get net.links.items i ≡ Some link
  pub fits : IsLink net link

pub link_at : (net : Network) (i : ℕ) → IsNetwork net → i < length net.links.items → IsLinkAt net i
link_at net i w h = by_link (slice_get net.links.items i) refl
  where
    by_link : (o : Option Link) → slice_get net.links.items i ≡ o → IsLinkAt net i
    by_link None e = absurd (no_gap net.links.items i e h)
    by_link (Some link) e =
        let L : Link → Type 0 = λ x. IsLink net x in
        record { link = link; found = e; fits = subst L (get_or_from_slice_get net.links.items i link link e) (w.links i link h) }

-- ---- these are the rates of a queue, as a port stands once on a tree
none_brought : (s q rate : ℕ) (xs : List Node) → ((j : ℕ) → j < length xs → (get_or xs j no_node).port ≢ s) → sum_by (loads.brought s q rate) xs ≡ 0
none_brought s q rate [] none = refl
none_brought s q rate (x ∷ xs) none =
    let first = sum_by-cons (loads.brought s q rate) x xs in
    let off = ap (λ b. if b && (x.queue == q) then rate else 0) (eq_false x.port s (none 0 (omega arith))) in
    let rest = none_brought s q rate xs (λ j h. none (suc j) (omega (arith, h))) in
    omega (arith, first, off, rest)

nodes_bring : (s q rate : ℕ) (xs : List Node) → ((a b : ℕ) → a < b → b < length xs → (get_or xs a no_node).port ≢ (get_or xs b no_node).port)
    → sum_by (loads.brought s q rate) xs ≡ cond (passes s q xs) rate 0
nodes_bring s q rate [] once = refl
nodes_bring s q rate (x ∷ xs) once =
    by_port (λ _. nodes_bring s q rate xs (λ a b h l. once (suc a) (suc b) (omega (arith, h)) (omega (arith, l)))) (x.port == s) refl
  where
    here : (x.port == s) ≡ true → sum_by (loads.brought s q rate) (x ∷ xs) ≡ cond (x.queue == q) rate 0
    here e =
        let first = sum_by-cons (loads.brought s q rate) x xs in
        let on = ap (λ b. if b && (x.queue == q) then rate else 0) e in
        let rest = none_brought s q rate xs (λ j h f. once 0 (suc j) (omega arith) (omega (arith, h)) (of_eq x.port s e ∙ sym f)) in
        omega (arith, first, on, rest)

    there : (x.port == s) ≡ false → sum_by (loads.brought s q rate) xs ≡ cond (passes s q xs) rate 0 → sum_by (loads.brought s q rate) (x ∷ xs) ≡ cond (passes s q xs) rate 0
    there e rest =
        let first = sum_by-cons (loads.brought s q rate) x xs in
        let off = ap (λ b. if b && (x.queue == q) then rate else 0) e in
        omega (arith, first, off, rest)

    by_port : (Unit {0} → sum_by (loads.brought s q rate) xs ≡ cond (passes s q xs) rate 0) → (c : Bool) → (x.port == s) ≡ c
        → sum_by (loads.brought s q rate) (x ∷ xs) ≡ cond (passes s q (x ∷ xs)) rate 0
    by_port rest true e = here e ∙ ap (λ b. cond (if b then x.queue == q else passes s q xs) rate 0) (sym e)
    by_port rest false e = there e (rest tt) ∙ ap (λ b. cond (if b then x.queue == q else passes s q xs) rate 0) (sym e)

links_bring : (net : Network) (s q n : ℕ) → IsNetwork net → n ≤ length net.links.items
    → sum_by (brought_by s q) (take n net.links.items) ≡ sum_by (rate_at net) (those (λ i. link_passes s q (slice_get net.links.items i)) n)
links_bring net s q zero w h = ap (sum_by (rate_at net)) (sym (those_zero (λ i. link_passes s q (slice_get net.links.items i))))
links_bring net s q (suc n) w h =
    let at = link_at net n w (omega (arith, h)) in
    let link = at.link in
    let rest = links_bring net s q n w (omega (arith, h)) in
    let more = sum_by_more (brought_by s q) net.links.items n link (omega (arith, h)) in
    let next : n + 1 ≡ suc n = omega arith in
    let front = ap (λ m. sum_by (brought_by s q) (take m net.links.items)) next in
    let is = ap (brought_by s q) (get_or_from_slice_get net.links.items n link link at.found) in
    let own = nodes_bring s q (rate_of link) link.nodes.items (λ a b l k f. at.fits.once a b l k f) in
    let passing = those_more (rate_at net) (λ i. link_passes s q (slice_get net.links.items i)) n in
    let found = ap (λ o. cond (link_passes s q o) (link_rate o) 0) at.found in
    omega (arith, rest, more, front, is, own, passing, found)

pub rates_are : (net : Network) (s q : ℕ) → IsNetwork net → rates_at net s q ≡ load_at net s q
rates_are net s q w =
    ap (sum_by (brought_by s q)) (sym (take_all (length net.links.items) net.links.items (omega arith))) ∙ links_bring net s q (length net.links.items) w (omega arith)

-- ---- a stair has the frame and the gap of its link
record HasLinkRate (s : Stair) (link : Link) : Type 0 where
  frame : s.frame ≡ link.frame * 1024
  gap : s.gap ≡ link.gap

within_keeps : (frame gap jitter : ℕ) (s : Stair) → stair_within frame gap jitter ≡ Some s → (s.frame ≡ frame) × (s.gap ≡ gap)
within_keeps frame gap jitter s e = by_test (nat_lt jitter (2 ^ 62)) e
  where
    by_test : (b : Bool) → (if b then Some record { frame = frame; gap = gap; jitter = jitter } else None) ≡ Some s → (s.frame ≡ frame) × (s.gap ≡ gap)
    by_test false f = absurd (let g : None ≡ Some s = f in cc)
    by_test true f =
        let g : Some record { frame = frame; gap = gap; jitter = jitter } ≡ Some s = f in
        let is : record { frame = frame; gap = gap; jitter = jitter } ≡ s = cc in
        (sym (ap (λ (x : Stair). x.frame) is), sym (ap (λ (x : Stair). x.gap) is))

module _ (net : Network) (w : IsNetwork net) (row : ℕ → ℕ → Option Queue) (stair : ℕ → Option Stair) (meets : MeetsEquations net row stair) where
  abbrev spots : List Spot
  spots = spots_of net

  are : AreSpots net spots
  are = in_range net w

  later_has : (before : Option Stair) (found : Option Queue) (s : Stair) (link : Link) → ((t : Stair) → before ≡ Some t → HasLinkRate t link) → later_stair before found ≡ Some s
      → HasLinkRate s link
  later_has None found s link h e = absurd (let g : None ≡ Some s = e in cc)
  later_has (Some t) None s link h e = absurd (let g : None ≡ Some s = e in cc)
  later_has (Some t) (Some queue) s link h e =
      let keeps = within_keeps t.frame t.gap (t.jitter + queue.delay) s e in
      let own = h t refl in
      record { frame = keeps.0 ∙ own.frame; gap = keeps.1 ∙ own.gap }

  below : (m n : ℕ) (s : Stair) (link : Link) → n < m → n < length spots → stair n ≡ Some s → slice_get net.links.items (spot_at spots n).link ≡ Some link → HasLinkRate s link
  below zero n s link early inside e l = absurd (omega (arith, early))
  below (suc m) n s link early inside e l = by_source (λ k t lt within f g. below m k t link lt within f g) (spot_at spots n).source refl
    where
      by_source : ((k : ℕ) (t : Stair) → k < m → k < length spots → stair k ≡ Some t → slice_get net.links.items (spot_at spots k).link ≡ Some link → HasLinkRate t link) → (k : ℕ)
          → (spot_at spots n).source ≡ k → HasLinkRate s link
      by_source rest zero from =
          let is : first_stair link ≡ Some s = sym (ap first_stair_of l) ∙ sym (meets.begins n inside from) ∙ e in
          let keeps = within_keeps (link.frame * 1024) link.gap link.jitter s is in
          record { frame = keeps.0; gap = keeps.1 }
      by_source rest (suc a) from =
          let before = (spot_at spots n).from in
          let P : ℕ → Type 0 = λ k. ComesFrom spots (spot_at spots n) n k in
          let c = subst P from (are.each n inside).comes in
          later_has (stair before) (row a (spot_at spots before).queue) s link
          (λ t f. rest before t (let h = c.0 in omega (arith, h, early)) (let h = c.0 in omega (arith, h, inside)) f (ap (λ k. slice_get net.links.items k) c.2 ∙ l))
          (sym (meets.goes_on n a inside from) ∙ e)

  rate_kept : (n : ℕ) (s : Stair) (link : Link) → n < length spots → stair n ≡ Some s → slice_get net.links.items (spot_at spots n).link ≡ Some link → stair_rate s ≡ rate_of link
  rate_kept n s link inside e l =
      let has = below (suc n) n s link (omega arith) inside e l in
      ap (λ x. div_ceil (x * 10 ^ 12) s.gap) has.frame ∙ ap (λ x. div_ceil (link.frame * 1024 * 10 ^ 12) x) has.gap

  -- where a spot has a line, that has the rate of its link
  line_rate : (n : ℕ) (link : Link) → n < length spots → slice_get net.links.items (spot_at spots n).link ≡ Some link → is_some (line_of (stair n)) ≡ true
      → rate_in (line_of (stair n)) ≡ rate_of link
  line_rate n link inside l known = by_stair (stair n) refl
    where
      by_stair : (o : Option Stair) → stair n ≡ o → rate_in (line_of (stair n)) ≡ rate_of link
      by_stair None e = absurd (let f : false ≡ true = sym (ap (λ o. is_some (line_of o)) e) ∙ known in cc)
      by_stair (Some s) e =
          let has = (line_has (Some s) (sym (ap (λ o. is_some (line_of o)) e) ∙ known)).rate in
          let one = sum_by-cons stair_rate s [] in
          let kept = rate_kept n s link inside e l in
          let is = ap (λ o. rate_in (line_of o)) e in
          omega (arith, has, one, kept, is)

  -- ---- a link that passes a queue is of a group there
  passes_is : (link : Link) (s q : ℕ) (xs : List Node) → is_on s q (hops_in (map (node_of link) xs)) ≡ passes s q xs
  passes_is link s q [] = refl
  passes_is link s q (x ∷ xs) = ap (λ b. if x.port == s then x.queue == q else b) (passes_is link s q xs)

  test_is : (i s q k : ℕ) (link : Link) → i < length net.links.items → slice_get net.links.items i ≡ Some link
      → is_of_tree_part (routes_of net) s q k i ≡ (link_passes s q (slice_get net.links.items i) && (part_number (tree_server_before s (map (node_of link) link.nodes.items)) == k))
  test_is i s q k link h e =
      in_part net i s q k link (tree_at net i link h (sym (get_or_from_slice_get net.links.items i link link e)))
      ∙ ap (λ b. b && (part_number (tree_server_before s (map (node_of link) link.nodes.items)) == k)) (passes_is link s q link.nodes.items ∙ ap (link_passes s q) (sym e))

  -- the spot of link i at port s
  pub record IsSpotAt (i s q k : ℕ) : Type 0 where
    pub link : Link
    pub found : slice_get net.links.items i ≡ Some link
    pub fits : IsLink net link
    pub place : ℕ
    pub inside : place < length link.nodes.items
    pub few : number_at net s i < length spots
    pub is : spot_at spots (number_at net s i) ≡ spot_of i (length (spots_below net i)) link place
    pub port : (node_at link place).port ≡ s
    pub queue : (node_at link place).queue ≡ q
    pub source : source_in link (node_at link place).from ≡ k

  pub spot_there : (i s q : ℕ) → i < length net.links.items → link_passes s q (slice_get net.links.items i) ≡ true → (k : ℕ) × IsSpotAt i s q k × (is_of_tree_part (routes_of net) s q k i ≡ true)
  spot_there i s q h on = by_port (has_or_lacks link s q link.nodes.items)
    where
      at : IsLinkAt net i
      at = link_at net i w h

      link : Link
      link = at.link

      on_is : is_on s q (hops_in (map (node_of link) link.nodes.items)) ≡ true
      on_is = passes_is link s q link.nodes.items ∙ ap (link_passes s q) (sym at.found) ∙ on

      by_port : HasPort link s q link.nodes.items ⊎ LacksPort link s q link.nodes.items → (k : ℕ) × IsSpotAt i s q k × (is_of_tree_part (routes_of net) s q k i ≡ true)
      by_port (inr m) = absurd (let f : false ≡ true = sym m.off ∙ on_is in cc)
      by_port (inl port) =
          let place = place_of s link.nodes.items in
          let number : number_at net s i ≡ length (spots_below net i) + place = ap (λ o. length (spots_below net i) + place_of s (nodes_in o)) at.found in
          let found = spot_found net i (length net.links.items) link place at.found port.inside h (omega arith) in
          let k = source_in link (node_at link place).from in
          let before = ap part_number port.from ∙ sym (source_is link (node_at link place).from) in (
            k,
            record {
              link = link;
              found = at.found;
              fits = at.fits;
              place = place;
              inside = port.inside;
              few = let l = found.0 in omega (arith, l, number);
              is = ap (λ n. spot_at spots n) number ∙ found.1;
              port = port.port;
              queue = of_eq (node_at link place).queue q (sym port.queue ∙ on_is);
              source = refl;
            },
            test_is i s q k link h at.found ∙ ap (λ b. b && (part_number (tree_server_before s (map (node_of link) link.nodes.items)) == k)) on
                ∙ ap (λ n. n == k) before ∙ eq_true k k refl,
          )

  -- of one group alone
  pub spot_of_test : (i s q k : ℕ) → i < length net.links.items → is_of_tree_part (routes_of net) s q k i ≡ true → IsSpotAt i s q k
  spot_of_test i s q k h e =
      let at = link_at net i w h in
      let before = part_number (tree_server_before s (map (node_of at.link) at.link.nodes.items)) in
      let own = of_both (link_passes s q (slice_get net.links.items i)) (before == k) (sym (test_is i s q k at.link h at.found) ∙ e) in
      let x = spot_there i s q h own.0 in
      let other = of_both (link_passes s q (slice_get net.links.items i)) (before == x.0) (sym (test_is i s q x.0 at.link h at.found) ∙ x.2) in
      let P : ℕ → Type 0 = λ m. IsSpotAt i s q m in
      subst P (sym (of_eq before x.0 other.1) ∙ of_eq before k own.1) x.1

  -- ---- what a group brings
  abbrev known : ℕ → Bool
  known n = is_some (line_of (stair n))

  has_passed : (p : ℕ → Bool) (xs : List ℕ) (x : ℕ) → list_all p xs ≡ true → Contains xs x → p x ≡ true
  has_passed p [] x e c = absurd (let h = c.1 in omega (arith, h))
  has_passed p (y ∷ ys) x e (zero, h, is) = sym (ap p is) ∙ (of_both (p y) (list_all p ys) e).0
  has_passed p (y ∷ ys) x e (suc i, h, is) = has_passed p ys x (of_both (p y) (list_all p ys) e).1 (i, omega (arith, h), is)

  in_those : (i s q k : ℕ) → i < length net.links.items → is_of_tree_part (routes_of net) s q k i ≡ true → list_all known (spots_in_group spots s q k) ≡ true
      → known (number_at net s i) ≡ true
  in_those i s q k h e all =
      let test = is_of_tree_part (routes_of net) s q k in
      has_passed (λ j. known (number_at net s j)) (those test (length net.links.items)) i
      (sym (list_all-map known (number_at net s) (those test (length net.links.items))) ∙ ap (list_all known) (sym (gathered net s q k w)) ∙ all)
      (those_has test (length net.links.items) i h e)

  sum_map : (f g : ℕ → ℕ) (xs : List ℕ) → sum_by f (map g xs) ≡ sum_by (λ x. f (g x)) xs
  sum_map f g [] = refl
  sum_map f g (x ∷ xs) =
      let a = sum_by-cons f (g x) (map g xs) in
      let b = sum_by-cons (λ y. f (g y)) x xs in
      let rest = sum_map f g xs in
      omega (arith, a, b, rest)

  abbrev pub brought : (s q k : ℕ) → ℕ
  brought s q k = sum_by (rate_at net) (those (is_of_tree_part (routes_of net) s q k) (length net.links.items))

  pub group_rate : (s q k : ℕ) → list_all known (spots_in_group spots s q k) ≡ true → sum_by (λ n. rate_in (line_of (stair n))) (spots_in_group spots s q k) ≡ brought s q k
  group_rate s q k all =
      let test = is_of_tree_part (routes_of net) s q k in
      let those_are = those test (length net.links.items) in
      ap (sum_by (λ n. rate_in (line_of (stair n)))) (gathered net s q k w)
      ∙ sum_map (λ n. rate_in (line_of (stair n))) (number_at net s) those_are
      ∙ same_sums (λ i. rate_in (line_of (stair (number_at net s i)))) (rate_at net) those_are
      (those_pass (λ i. rate_in (line_of (stair (number_at net s i))) ≡ rate_at net i) test (length net.links.items) each)
    where
      each : (i : ℕ) → i < length net.links.items → is_of_tree_part (routes_of net) s q k i ≡ true → rate_in (line_of (stair (number_at net s i))) ≡ rate_at net i
      each i h e =
          let at = spot_of_test i s q k h e in
          line_rate (number_at net s i) at.link at.few (ap (λ (x : Spot). slice_get net.links.items x.link) at.is ∙ at.found) (in_those i s q k h e all)
          ∙ ap link_rate (sym at.found)

  -- what comes from each port before is no faster than it
  pub record ArePaced (s q : ℕ) : Type 0 where
    pub pace : (p : ℕ) → p < length net.ports.items → list_all known (spots_in_group spots s q (suc p)) ≡ true → brought s q (suc p) ≤ (port_at net p).pace

  carried : (s q k : ℕ) (xs : List ℕ) → k ≤ length net.ports.items → spots_in_group spots s q k ≡ xs
      → list_all (λ g. g.known) (group_list spots (λ n. line_of (stair n)) k xs) ≡ true → ArePaced s q
      → brought s q k ≤ sum_by long_run_rate (map (part_of net) (group_list spots (λ n. line_of (stair n)) k xs))
  carried s q k [] few e all paced =
      let rate = group_rate s q k (ap (list_all known) e) in
      let none = ap (sum_by (λ n. rate_in (line_of (stair n)))) e in
      omega (arith, rate, none)
  carried s q k (m ∷ ms) few e all paced = by_source k few e all
    where
      by_source : (k : ℕ) → k ≤ length net.ports.items → spots_in_group spots s q k ≡ m ∷ ms
          → list_all (λ g. g.known) (group_list spots (λ n. line_of (stair n)) k (m ∷ ms)) ≡ true
          → brought s q k ≤ sum_by long_run_rate (map (part_of net) (group_list spots (λ n. line_of (stair n)) k (m ∷ ms)))
      by_source zero few e all =
          let own = of_both (list_all known (m ∷ ms)) true all in
          let rate = group_rate s q 0 (ap (list_all known) e ∙ own.0) in
          let same = ap (sum_by (λ n. rate_in (line_of (stair n)))) e in
          let one = sum_by-cons long_run_rate (part_of net (group_of spots (λ n. line_of (stair n)) 0 (m ∷ ms))) [] in
          omega (arith, rate, same, one)
      by_source (suc p) few e all =
          let own = of_both (list_all known (m ∷ ms)) true all in
          let there = ap (list_all known) e ∙ own.0 in
          let rate = group_rate s q (suc p) there in
          let same = ap (sum_by (λ n. rate_in (line_of (stair n)))) e in
          let one = sum_by-cons long_run_rate (part_of net (group_of spots (λ n. line_of (stair n)) (suc p) (m ∷ ms))) [] in
          let pace = paced.pace p (omega (arith, few)) there in
          omega (arith, rate, same, one, pace)

  groups_carry : (s q n : ℕ) → n ≤ length net.ports.items + 1 → ArePaced s q → list_all (λ g. g.known) (groups_at spots (λ m. line_of (stair m)) s q n) ≡ true
      → sum_below (brought s q) n ≤ sum_by long_run_rate (map (part_of net) (groups_at spots (λ m. line_of (stair m)) s q n))
  unfolding groups_at
  groups_carry s q zero few paced all = omega arith
  groups_carry s q (suc n) few paced all =
      let old = groups_at spots (λ m. line_of (stair m)) s q n in
      let new = group_list spots (λ m. line_of (stair m)) n (spots_in_group spots s q n) in
      let both = of_both (list_all (λ (g : Group). g.known) old) (list_all (λ (g : Group). g.known) new) (sym (list_all-append (λ (g : Group). g.known) old new) ∙ all) in
      let rest = groups_carry s q n (omega (arith, few)) paced both.0 in
      let one = carried s q n (spots_in_group spots s q n) (omega (arith, few)) refl both.1 paced in
      let parts = ap (sum_by long_run_rate) (map-append (part_of net) old new) in
      let sums = sum_by-append long_run_rate (map (part_of net) old) (map (part_of net) new) in
      omega (arith, rest, one, parts, sums)

  -- so the parts of a queue carry the load of its links
  pub load_carried : (s q : ℕ) → ArePaced s q → list_all (λ g. g.known) (groups_at spots (λ n. line_of (stair n)) s q (length net.ports.items + 1)) ≡ true
      → load_at net s q ≤ sum_by long_run_rate (map (part_of net) (groups_at spots (λ n. line_of (stair n)) s q (length net.ports.items + 1)))
  load_carried s q paced all =
      let cover = covered (rate_at net) (λ i. link_passes s q (slice_get net.links.items i)) (λ k i. is_of_tree_part (routes_of net) s q k i) (length net.ports.items + 1) (length net.links.items) of_some in
      let groups = groups_carry s q (length net.ports.items + 1) (omega arith) paced all in
      omega (arith, cover, groups)
    where
      of_some : (i : ℕ) → i < length net.links.items → link_passes s q (slice_get net.links.items i) ≡ true
          → (k : ℕ) × (k < length net.ports.items + 1) × (is_of_tree_part (routes_of net) s q k i ≡ true)
      of_some i h on =
          let x = spot_there i s q h on in
          let at = x.1 in
          let most = (are.each (number_at net s i) at.few).source in
          let source = ap (λ (y : Spot). y.source) at.is ∙ at.source in
          (x.0, omega (arith, most, source), x.2)

  -- ---- where a group that is known comes from: a queue that has a promise
  passes_node : (p : ℕ) (xs : List Node) (f : ℕ) → f < length xs → (get_or xs f no_node).port ≡ p → ((j : ℕ) → j < f → (get_or xs j no_node).port ≢ p)
      → passes p (get_or xs f no_node).queue xs ≡ true
  passes_node p [] f h e none = absurd (omega (arith, h))
  passes_node p (x ∷ xs) zero h e none = ap (λ b. if b then x.queue == x.queue else passes p x.queue xs) (eq_true x.port p e) ∙ eq_true x.queue x.queue refl
  passes_node p (x ∷ xs) (suc f) h e none =
      ap (λ b. if b then x.queue == (get_or xs f no_node).queue else passes p (get_or xs f no_node).queue xs) (eq_false x.port p (none 0 (omega arith)))
      ∙ passes_node p xs f (omega (arith, h)) e (λ j lt. none (suc j) (omega (arith, lt)))

  row_known : (before : Option Stair) (found : Option Queue) → is_some (line_of (later_stair before found)) ≡ true → is_some found ≡ true
  row_known None found e = absurd (let f : false ≡ true = e in cc)
  row_known (Some t) None e = absurd (let f : false ≡ true = e in cc)
  row_known (Some t) (Some queue) e = refl

  pub comes_live : (i s q p : ℕ) → i < length net.links.items → is_of_tree_part (routes_of net) s q (suc p) i ≡ true → list_all known (spots_in_group spots s q (suc p)) ≡ true
      → (b : ℕ) × (b < queues_of (port_at net p).discipline) × ((is_some (row p b) && link_passes p b (slice_get net.links.items i)) ≡ true)
  comes_live i s q p h e all = by_from (node_at link at.place).from refl at.source
    where
      at : IsSpotAt i s q (suc p)
      at = spot_of_test i s q (suc p) h e

      link : Link
      link = at.link

      first : ℕ
      first = length (spots_below net i)

      node : IsNodeAt net link at.place (node_at link at.place)
      node = at.fits.nodes at.place at.inside

      by_from : (o : Option ℕ) → (node_at link at.place).from ≡ o → source_in link (node_at link at.place).from ≡ suc p
          → (b : ℕ) × (b < queues_of (port_at net p).discipline) × ((is_some (row p b) && link_passes p b (slice_get net.links.items i)) ≡ true)
      by_from None from source = absurd (let f = ap (source_in link) from in omega (arith, f, source))
      by_from (Some f) from source =
          let port : (node_at link f).port ≡ p = let g = ap (source_in link) from in omega (arith, g, source) in
          let H : Option ℕ → Type 0 = λ o. HangsBefore at.place o in
          let early : f < at.place = subst H from node.hangs in
          let place = at.inside in
          let inside : f < length link.nodes.items = omega (arith, early, place) in
          let found = spot_found net i (length net.links.items) link f at.found inside h (omega arith) in
          let Q : ℕ → Type 0 = λ n. (node_at link f).queue < queues_of (port_at net n).discipline in
          let before : (spot_at spots (number_at net s i)).from ≡ first + f = ap (λ (x : Spot). x.from) at.is ∙ ap (number_before first at.place) from in
          let later = meets.goes_on (number_at net s i) p at.few (ap (λ (x : Spot). x.source) at.is ∙ source) in
          let live = row_known (stair (spot_at spots (number_at net s i)).from) (row p (spot_at spots (spot_at spots (number_at net s i)).from).queue)
          (sym (ap (λ o. is_some (line_of o)) later) ∙ in_those i s q (suc p) h e all) in
          let queue : (spot_at spots (spot_at spots (number_at net s i)).from).queue ≡ (node_at link f).queue = ap (λ n. (spot_at spots n).queue) before ∙ ap (λ (x : Spot). x.queue) found.1 in
          let on = ap (link_passes p (node_at link f).queue) at.found
          ∙ passes_node p link.nodes.items f inside port (λ j lt same. at.fits.once j f lt inside (same ∙ sym port)) in (
            (node_at link f).queue,
            subst Q port (at.fits.nodes f inside).queue,
            ap (λ b. b && link_passes p (node_at link f).queue (slice_get net.links.items i)) (ap (λ n. is_some (row p n)) (sym queue) ∙ live) ∙ on,
          )
