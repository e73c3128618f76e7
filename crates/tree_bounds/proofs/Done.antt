-- Port by port in the order: the rows of the ports that are done meet the equations, by the lines as they are.
use Rattle.std.proofs.Common.{◌≡◌, ◌≢◌, ℕ, zero, suc, ◌<◌, ◌+◌, ◌==◌, ◌&&◌, Bool, Option, Some, None, List, [], ◌∷◌, ◌++◌, length, get_or, map, set, refl, sym, ◌∙◌, ap, ap₂, subst, arith, inl, inr, get_or-set_same, get_or-set_other}
use Rattle.std.specs.Prelude.{All, is_some}
use Rattle.std.specs.List.{sum_by, list_all}
use Rattle.std.specs.Option.{option_map}
use Rattle.std.proofs.lemmas.Bool.{cases_eq, cases_lt}
use Rattle.std.proofs.lemmas.List.{length-set, get_or_default, get_or_past}
use Rattle.std.proofs.lemmas.List.Sums.{sum_by-cons}
use Rattle.arrival_lines.specs.declared.grid.Line.{Line}
use Rattle.arrival_lines.specs.declared.grid.Queue.{Queue}
use Rattle.arrival_stairs.specs.Stairs.{IsStair}
use Rattle.arrival_stairs.specs.Views.{Bunch}
use Rattle.arrival_stairs.specs.declared.stairs.Stair.{Stair}
use Rattle.tree_network.specs.Networks.{port_at, queues_of}
use Rattle.tree_network.specs.declared.network.Network.{Network}
use Rattle.tree_network.specs.declared.spots.Spot.{Spot}
use Rattle.tree_network.specs.Spots.{no_spot, spot_at, spots_of, AreSpots, ComesFrom}
use Rattle.tree_network.specs.Lists.{those, is_from, is_between}
use Rattle.tree_network.specs.Orders.{IsOrderOf, GoesTo}
use Rattle.tree_network.proofs.Those.{those_pass, those_has, eq_true, of_eq, of_both}
use Rattle.tree_bounds.specs.Bunches.{Arriving, AreRowsOf, stair_list, stairs_among, bunch_of_group, arriving_of_groups, arriving_at, arriving_below}
use Rattle.tree_bounds.specs.Groups.{burst_in, rate_in, group_of, is_in_group, spots_in_group, group_list, groups_at, pace_line, parts_in, longest_group}
use Rattle.tree_bounds.specs.Lines.{line_of}
use Rattle.tree_bounds.specs.Onward.{stair_in, BeginStairs, CanBePassedOn, ArePassedOn}
use Rattle.tree_bounds.specs.Equations.{comes_to}
use Rattle.tree_bounds.specs.Solved.{AreAllStairs, AreDone, AreSolved}
use Rattle.tree_bounds.specs.Stairs.{later_stair}
use Rattle.tree_bounds.specs.Tables.{row_at}
use Rattle.tree_bounds.specs.declared.groups.Group.{Group}
use Rattle.tree_bounds.proofs.Bunched.{arriving_length}
use Rattle.tree_bounds.proofs.Onwards.{later_range}

-- ---- what arrives hangs on the lines that come to the port alone
sum_same : (f g : ℕ → ℕ) (xs : List ℕ) → All (λ n. f n ≡ g n) xs → sum_by f xs ≡ sum_by g xs
sum_same f g [] a = refl
sum_same f g (x ∷ xs) a =
    let rest = sum_same f g xs (λ k d h. a (suc k) d (omega (arith, h))) in
    let first : f x ≡ g x = a 0 x (omega arith) in
    sum_by-cons f x xs ∙ ap (λ y. y + sum_by f xs) first ∙ ap (λ y. g x + y) rest ∙ sym (sum_by-cons g x xs)

tests_same : (f g : ℕ → Bool) (xs : List ℕ) → All (λ n. f n ≡ g n) xs → list_all f xs ≡ list_all g xs
tests_same f g [] a = refl
tests_same f g (x ∷ xs) a =
    let rest = tests_same f g xs (λ k d h. a (suc k) d (omega (arith, h))) in
    let first : f x ≡ g x = a 0 x (omega arith) in
    ap (λ y. y && list_all f xs) first ∙ ap (λ y. g x && y) rest

list_same : (spots : List Spot) (line later : ℕ → Option Line) (k : ℕ) (numbers : List ℕ) → All (λ n. line n ≡ later n) numbers
    → group_list spots line k numbers ≡ group_list spots later k numbers
list_same spots line later k [] a = refl
list_same spots line later k (n ∷ numbers) a =
    let S : ℕ → ℕ → Bool → List Group = λ b r w. record { source = k; burst = b; rate = r; longest = (group_of spots line k (n ∷ numbers)).longest; known = w; count = length (n ∷ numbers) } ∷ [] in
    let eb = sum_same (λ m. burst_in (line m)) (λ m. burst_in (later m)) (n ∷ numbers) (λ i d h. ap burst_in (a i d h)) in
    let er = sum_same (λ m. rate_in (line m)) (λ m. rate_in (later m)) (n ∷ numbers) (λ i d h. ap rate_in (a i d h)) in
    let ek = tests_same (λ m. is_some (line m)) (λ m. is_some (later m)) (n ∷ numbers) (λ i d h. ap is_some (a i d h)) in
    ap (λ b. S b (group_of spots line k (n ∷ numbers)).rate (group_of spots line k (n ∷ numbers)).known) eb
    ∙ ap (λ r. S (group_of spots later k (n ∷ numbers)).burst r (group_of spots line k (n ∷ numbers)).known) er
    ∙ ap (λ w. S (group_of spots later k (n ∷ numbers)).burst (group_of spots later k (n ∷ numbers)).rate w) ek

groups_same : (spots : List Spot) (line later : ℕ → Option Line) (s q k : ℕ) → ((n : ℕ) → n < length spots → (spot_at spots n).port ≡ s → line n ≡ later n)
    → groups_at spots line s q k ≡ groups_at spots later s q k
unfolding groups_at
groups_same spots line later s q zero h = refl
groups_same spots line later s q (suc k) h =
    ap (λ l. l ++ group_list spots line k (spots_in_group spots s q k)) (groups_same spots line later s q k h)
    ∙ ap (λ l. groups_at spots later s q k ++ l) (list_same spots line later k (spots_in_group spots s q k)
    (those_pass (λ n. line n ≡ later n) (is_in_group spots s q k) (length spots)
    (λ n lt e. h n lt (of_eq (spot_at spots n).port s
    (of_both ((spot_at spots n).source == k) ((spot_at spots n).port == s) (of_both (is_between spots k s n) ((spot_at spots n).queue == q) e).0).1))))

among_same : (stair later : ℕ → Option Stair) (numbers : List ℕ) → All (λ n. stair n ≡ later n) numbers → stairs_among stair numbers ≡ stairs_among later numbers
unfolding stairs_among
among_same stair later [] a = refl
among_same stair later (n ∷ numbers) a =
    let first : stair n ≡ later n = a 0 n (omega arith) in
    let rest = among_same stair later numbers (λ k d h. a (suc k) d (omega (arith, h))) in
    ap (λ o. stair_list o ++ stairs_among stair numbers) first ∙ ap (λ (ss : List Stair). stair_list (later n) ++ ss) rest

module _ (net : Network) (spots : List Spot) (stair later : ℕ → Option Stair) (s : ℕ)
    (h : (n : ℕ) → n < length spots → (spot_at spots n).port ≡ s → stair n ≡ later n) where
  bunch_same : (q : ℕ) (g : Group) → bunch_of_group net spots stair s q g ≡ bunch_of_group net spots later s q g
  bunch_same q g =
      ap (λ (ss : List Stair). record { stairs = ss; pace = pace_line net g.longest g.source })
      (among_same stair later (spots_in_group spots s q g.source)
      (those_pass (λ n. stair n ≡ later n) (is_in_group spots s q g.source) (length spots)
      (λ n lt e. h n lt (of_eq (spot_at spots n).port s
      (of_both ((spot_at spots n).source == g.source) ((spot_at spots n).port == s) (of_both (is_between spots g.source s n) ((spot_at spots n).queue == q) e).0).1))))

  bunches_same : (q : ℕ) (groups : List Group) → map (bunch_of_group net spots stair s q) groups ≡ map (bunch_of_group net spots later s q) groups
  bunches_same q [] = refl
  bunches_same q (g ∷ groups) = ap₂ (λ (w : Bunch) (ws : List Bunch). w ∷ ws) (bunch_same q g) (bunches_same q groups)

  queue_same : (q : ℕ) → arriving_at net spots stair s q ≡ arriving_at net spots later s q
  queue_same q =
      let k = length net.ports.items + 1 in
      let gs = groups_at spots (λ n. line_of (stair n)) s q k in
      let A : List Bunch → Arriving = λ ws. record { bunches = option_map (λ parts. ws) (parts_in net gs); longest = longest_group gs } in
      ap A (bunches_same q gs)
      ∙ ap (arriving_of_groups net spots later s q) (groups_same spots (λ n. line_of (stair n)) (λ n. line_of (later n)) s q k (λ n lt at. ap line_of (h n lt at)))

  pub arriving_same : (q : ℕ) → arriving_below net spots stair s q ≡ arriving_below net spots later s q
  unfolding arriving_below
  arriving_same zero = refl
  arriving_same (suc q) = ap₂ (λ (xs : List Arriving) (x : Arriving). xs ++ x ∷ []) (arriving_same q) (queue_same q)

-- ---- stairs that a port passes on
-- those of spots to which frames come from elsewhere stay
pub stays : (spots : List Spot) (p : ℕ) (found : List (Option Queue)) (old new : List (Option Stair)) (n : ℕ) → (spot_at spots n).source ≢ p + 1
    → ArePassedOn spots (those (is_from spots (p + 1)) (length spots)) found (length (those (is_from spots (p + 1)) (length spots))) old new
    → stair_in new n ≡ stair_in old n
stays spots p found old new n other a =
    a.others n (λ i h same. other (ap (λ m. (spot_at spots m).source) (sym same)
    ∙ those_pass (λ m. (spot_at spots m).source ≡ p + 1) (is_from spots (p + 1)) (length spots) (λ m lt e. of_eq (spot_at spots m).source (p + 1) e) i 0 h))

pub goes : (spots : List Spot) (p : ℕ) (found : List (Option Queue)) (old new : List (Option Stair)) (n : ℕ) → n < length spots → (spot_at spots n).source ≡ p + 1
    → ArePassedOn spots (those (is_from spots (p + 1)) (length spots)) found (length (those (is_from spots (p + 1)) (length spots))) old new
    → stair_in new n ≡ later_stair (stair_in old (spot_at spots n).from) (get_or found (spot_at spots (spot_at spots n).from).queue None)
goes spots p found old new n h e a =
    let c = those_has (is_from spots (p + 1)) (length spots) n h (eq_true (spot_at spots n).source (p + 1) e) in
    let at = get_or_default (those (is_from spots (p + 1)) (length spots)) c.0 0 n c.1 ∙ c.2 in
    let P : ℕ → Type 0 = λ m. stair_in new m ≡ later_stair (stair_in old (spot_at spots m).from) (get_or found (spot_at spots (spot_at spots m).from).queue None) in
    subst P at (a.passed c.0 c.1)

-- where the frames of a spot come from
came : (net : Network) (spots : List Spot) (n a : ℕ) → AreSpots net spots → n < length spots → (spot_at spots n).source ≡ suc a
    → ((spot_at spots n).from < n) × ((spot_at spots (spot_at spots n).from).port ≡ a)
came net spots n a w h e =
    let P : ℕ → Type 0 = λ k. ComesFrom spots (spot_at spots n) n k in
    let c = subst P e (w.each n h).comes in
    (c.0, c.1)

-- one of the ports in their order, as it is gone through
pub port_in_order : (net : Network) (order these : List ℕ) (k : ℕ) → IsOrderOf (spots_of net) (length net.ports.items) order → these ≡ order → k < length these → get_or these k 0 < length net.ports.items
port_in_order net order these k o same h =
    let inside = ap length same in
    let is = ap (λ (l : List ℕ). get_or l k 0) same in
    let lt = o.small k (omega (arith, h, inside, o.count)) in
    omega (arith, is, lt)

-- ---- one port more
pub can_pass : (net : Network) (order : List ℕ) (k p queues stairs : ℕ) → AreSpots net (spots_of net) → IsOrderOf (spots_of net) (length net.ports.items) order
    → k < length net.ports.items → p ≡ get_or order k 0 → queues ≡ queues_of (port_at net p).discipline → stairs ≡ length (spots_of net)
    → CanBePassedOn (spots_of net) (those (is_from (spots_of net) (p + 1)) (length (spots_of net))) queues stairs
can_pass net order k p queues stairs w o h is eq el = record {
  inside = λ i lt. let e = (all i 0 lt).0 in omega (arith, e, el);
  stairs_each = el;
  before = λ i lt. let e = all i 0 lt in let c = from i lt in omega (arith, e.0, c.0, el);
  queue = λ i lt.
      let c = from i lt in
      let n = (spot_at spots (get_or numbers i 0)).from in
      let q = (w.each n (let e = all i 0 lt in omega (arith, e.0, c.0))).queue in
      let P : ℕ → Type 0 = λ m. (spot_at spots n).queue < queues_of (port_at net m).discipline in
      let lt2 = subst P c.1 q in omega (arith, lt2, eq);
  apart = λ i j li lj same.
      let c = from i li in
      let e = all j 0 lj in
      let own : GoesTo spots (get_or order k 0) (get_or order k 0) = record {
        spot = get_or numbers j 0;
        inside = e.0;
        from = let next : p + 1 ≡ suc (get_or order k 0) = omega (arith, is) in e.1 ∙ next;
        to = ap (λ m. (spot_at spots m).port) same ∙ c.1 ∙ is;
      } in
      let lt = o.forward k k h h own in omega (arith, lt);
}
  where
    spots : List Spot
    spots = spots_of net

    numbers : List ℕ
    numbers = those (is_from (spots_of net) (p + 1)) (length (spots_of net))

    all : All (λ n. (n < length (spots_of net)) × ((spot_at (spots_of net) n).source ≡ p + 1)) (those (is_from (spots_of net) (p + 1)) (length (spots_of net)))
    all = those_pass (λ n. (n < length (spots_of net)) × ((spot_at (spots_of net) n).source ≡ p + 1)) (is_from (spots_of net) (p + 1)) (length (spots_of net))
        (λ m lt e. (lt, of_eq (spot_at (spots_of net) m).source (p + 1) e))

    from : (i : ℕ) → i < length (those (is_from (spots_of net) (p + 1)) (length (spots_of net)))
        → ((spot_at (spots_of net) (get_or (those (is_from (spots_of net) (p + 1)) (length (spots_of net))) i 0)).from < get_or (those (is_from (spots_of net) (p + 1)) (length (spots_of net))) i 0)
        × ((spot_at (spots_of net) (spot_at (spots_of net) (get_or (those (is_from (spots_of net) (p + 1)) (length (spots_of net))) i 0)).from).port ≡ p)
    from i lt =
        let e = all i 0 lt in
        let next : p + 1 ≡ suc p = omega arith in
        came net (spots_of net) (get_or (those (is_from (spots_of net) (p + 1)) (length (spots_of net))) i 0) p w e.0 (e.1 ∙ next)

pub none_done : (net : Network) (order : List ℕ) (rows : List (List (Option Queue))) (stairs : List (Option Stair)) → length rows ≡ length net.ports.items
    → BeginStairs net (spots_of net) (length (spots_of net)) stairs → AreAllStairs stairs → AreDone net order 0 rows stairs
none_done net order rows stairs count b range = record {
  ports = count;
  stairs_each = b.count;
  in_range = range;
  begins = b.begins;
  goes_on = λ n i h lt. absurd (omega (arith, lt));
  rows_each = λ i lt. absurd (omega (arith, lt));
}

pub one_done : (net : Network) (order : List ℕ) (k p : ℕ) (rows : List (List (Option Queue))) (old new : List (Option Stair)) (found : List (Option Queue))
    → AreSpots net (spots_of net) → IsOrderOf (spots_of net) (length net.ports.items) order → k < length net.ports.items → p ≡ get_or order k 0
    → AreRowsOf (port_at net p) (comes_to net (λ n. stair_in old n) p) found
    → ArePassedOn (spots_of net) (those (is_from (spots_of net) (p + 1)) (length (spots_of net))) found
    (length (those (is_from (spots_of net) (p + 1)) (length (spots_of net)))) old new
    → AreDone net order k rows old → AreDone net order (k + 1) (set rows p found) new
one_done net order k p rows old new found w o h is found_rows passed d = record {
  ports = length-set rows p found ∙ d.ports;
  stairs_each = passed.count ∙ d.stairs_each;
  in_range = record { each = each };
  begins = λ n lt e. stays (spots_of net) p found old new n (λ f. omega (arith, e, f)) passed ∙ d.begins n lt e;
  goes_on = goes_on;
  rows_each = rows_each;
}
  where
    inside : p < length rows
    inside = let lt = o.small k h in omega (arith, lt, is, d.ports)

    -- what is passed on is in range where it was
    each : (n : ℕ) (stair : Stair) → stair_in new n ≡ Some stair → IsStair stair
    each n stair e = elim (cases_eq (spot_at (spots_of net) n).source (p + 1)) [
      | inl from ↦ elim (cases_lt n (length (spots_of net))) [
        | inl lt ↦
            let m = (spot_at (spots_of net) n).from in
            later_range (stair_in old m) (get_or found (spot_at (spots_of net) m).queue None) stair (λ t f. d.in_range.each m t f)
            (sym (goes (spots_of net) p found old new n lt from passed) ∙ e)
        | inr past ↦
            let none = ap (λ (x : Spot). x.source) (get_or_past (spots_of net) n no_spot past) in
            absurd (omega (arith, none, from))
      ]
      | inr other ↦ d.in_range.each n stair (sym (stays (spots_of net) p found old new n other passed) ∙ e)
    ]

    -- the port stands at its place alone
    its_place : (i : ℕ) → i < k → get_or order i 0 ≢ p
    its_place i lt same = let e = o.once i k (omega (arith, lt, h)) h (same ∙ is) in omega (arith, e, lt)

    -- frames that come from it go to later ports
    is_later : (n i : ℕ) → n < length (spots_of net) → i < length net.ports.items → (spot_at (spots_of net) n).port ≡ get_or order i 0
        → (spot_at (spots_of net) n).source ≡ p + 1 → k < i
    is_later n i lt hi at from =
        let next : p + 1 ≡ suc (get_or order k 0) = omega (arith, is) in
        o.forward k i h hi record { spot = n; inside = lt; from = from ∙ next; to = at }

    -- what comes to the ports that are done, and to this one, stays
    same_at : (i : ℕ) → i < k + 1 → comes_to net (λ n. stair_in old n) (get_or order i 0) ≡ comes_to net (λ n. stair_in new n) (get_or order i 0)
    same_at i lt =
        arriving_same net (spots_of net) (λ n. stair_in old n) (λ n. stair_in new n) (get_or order i 0)
        (λ n ln at. sym (stays (spots_of net) p found old new n
        (λ from. let later = is_later n i ln (omega (arith, lt, h)) at from in omega (arith, later, lt)) passed))
        (queues_of (port_at net (get_or order i 0)).discipline)

    -- and so do the rows
    same_rows : (i : ℕ) → i < k → get_or (set rows p found) (get_or order i 0) [] ≡ get_or rows (get_or order i 0) []
    same_rows i lt = get_or-set_other rows p (get_or order i 0) found [] (its_place i lt)

    its_rows : get_or (set rows p found) p [] ≡ found
    its_rows = get_or-set_same rows p found [] inside

    goes_on : (n i : ℕ) → n < length (spots_of net) → i < k + 1 → (spot_at (spots_of net) n).source ≡ suc (get_or order i 0)
        → stair_in new n ≡ later_stair (stair_in new (spot_at (spots_of net) n).from)
        (row_at (set rows p found) (get_or order i 0) (spot_at (spots_of net) (spot_at (spots_of net) n).from).queue)
    goes_on n i lt li e =
        let c = came net (spots_of net) n (get_or order i 0) w lt e in
        let m = (spot_at (spots_of net) n).from in
        let q = (spot_at (spots_of net) m).queue in
        let before = stays (spots_of net) p found old new m
        (λ from. let later = is_later m i (omega (arith, lt, c.0)) (omega (arith, li, h)) c.1 from in omega (arith, later, li)) passed in
        elim (cases_eq i k) [
          | inl last ↦
              let here : get_or order i 0 ≡ p = ap (λ j. get_or order j 0) last ∙ sym is in
              let from : (spot_at (spots_of net) n).source ≡ p + 1 = omega (arith, e, here) in
              goes (spots_of net) p found old new n lt from passed
              ∙ ap (λ l. later_stair l (get_or found q None)) (sym before)
              ∙ ap (λ r. later_stair (stair_in new m) (get_or r q None)) (sym (ap (λ s. get_or (set rows p found) s []) here ∙ its_rows))
          | inr other ↦
              let early : i < k = omega (arith, li, other) in
              stays (spots_of net) p found old new n (λ from. its_place i early (omega (arith, e, from))) passed
              ∙ d.goes_on n i lt early e
              ∙ ap (λ l. later_stair l (row_at rows (get_or order i 0) q)) (sym before)
              ∙ ap (λ r. later_stair (stair_in new m) (get_or r q None)) (sym (same_rows i early))
        ]

    rows_each : (i : ℕ) → i < k + 1 → AreRowsOf (port_at net (get_or order i 0)) (comes_to net (λ n. stair_in new n) (get_or order i 0)) (get_or (set rows p found) (get_or order i 0) [])
    rows_each i li =
        let A : List Arriving → Type 0 = λ xs. AreRowsOf (port_at net (get_or order i 0)) xs (get_or (set rows p found) (get_or order i 0) []) in
        subst A (same_at i li) (
        elim (cases_eq i k) [
          | inl last ↦
              let here : get_or order i 0 ≡ p = ap (λ j. get_or order j 0) last ∙ sym is in
              let R : List (Option Queue) → Type 0 = λ r. AreRowsOf (port_at net p) (comes_to net (λ n. stair_in old n) p) r in
              let S : ℕ → Type 0 = λ s. AreRowsOf (port_at net s) (comes_to net (λ n. stair_in old n) s) (get_or (set rows p found) s []) in
              subst S (sym here) (subst R (sym its_rows) found_rows)
          | inr other ↦
              let early : i < k = omega (arith, li, other) in
              let R : List (Option Queue) → Type 0 = λ r. AreRowsOf (port_at net (get_or order i 0)) (comes_to net (λ n. stair_in old n) (get_or order i 0)) r in
              subst R (sym (same_rows i early)) (d.rows_each i early)
        ])

-- ---- all ports
pub all_done : (net : Network) (order : List ℕ) (rows : List (List (Option Queue))) (stairs : List (Option Stair)) → AreSpots net (spots_of net)
    → IsOrderOf (spots_of net) (length net.ports.items) order → AreDone net order (length net.ports.items) rows stairs → AreSolved net rows
all_done net order rows stairs w o d = record {
  stair = λ n. stair_in stairs n;
  equations = record {
    begins = d.begins;
    goes_on = λ n a lt e.
        let small = (w.each n lt).source in
        let st = o.every a (omega (arith, small, e)) in
        let inside : st.0 < length net.ports.items = let i = st.1.inside in omega (arith, i, o.count) in
        let P : ℕ → Type 0 = λ s. stair_in stairs n ≡ later_stair (stair_in stairs (spot_at (spots_of net) n).from) (row_at rows s (spot_at (spots_of net) (spot_at (spots_of net) n).from).queue) in
        subst P st.1.is (d.goes_on n st.0 lt inside (e ∙ ap (λ s. suc s) (sym st.1.is)));
    rows = λ s q hs hq. (at s hs).each q (let count = arriving_length net (spots_of net) (λ n. stair_in stairs n) s (queues_of (port_at net s).discipline) in omega (arith, count, hq));
  };
  each = record {
    ports = d.ports;
    queues = λ s hs. (at s hs).count ∙ arriving_length net (spots_of net) (λ n. stair_in stairs n) s (queues_of (port_at net s).discipline);
  };
}
  where
    at : (s : ℕ) → s < length net.ports.items → AreRowsOf (port_at net s) (comes_to net (λ n. stair_in stairs n) s) (get_or rows s [])
    at s hs =
        let st = o.every s hs in
        let inside : st.0 < length net.ports.items = let i = st.1.inside in omega (arith, i, o.count) in
        let P : ℕ → Type 0 = λ m. AreRowsOf (port_at net m) (comes_to net (λ n. stair_in stairs n) m) (get_or rows m []) in
        subst P st.1.is (d.rows_each st.0 inside)
