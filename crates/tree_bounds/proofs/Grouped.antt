-- The groups of the spots at a port, taken one after the other, are those of its sources.
use Rattle.std.proofs.Common.{◌≡◌, ◌≢◌, ℕ, zero, suc, ◌<◌, ◌≤◌, ◌+◌, ◌*◌, ◌^◌, ◌==◌, ◌&&◌, max, Bool, true, false, Option, List, [], ◌∷◌, ◌++◌, length, get_or, take, refl, sym, ◌∙◌, ap, ap₂, subst, arith, zero-add, append-nil, length-append, drop, filter, fold}
use Rattle.std.specs.Prelude.{All, is_some}
use Rattle.std.specs.List.{sum_by, list_all, flat_map}
use Rattle.std.proofs.lemmas.List.{take_more, take_all, take-append-le}
use Rattle.std.proofs.lemmas.List.Concat.{flat_map-append, length-flat_map}
use Rattle.std.proofs.lemmas.List.Elements.{All-append, filter-append}
use Rattle.std.proofs.lemmas.List.Sums.{sum_by-append, sum_by-cons, fold-append}
use Rattle.std.proofs.lemmas.List.Folds.{list_all-append}
use Rattle.arrival_lines.specs.declared.grid.Line.{Line}
use Rattle.tree_network.specs.declared.spots.Spot.{Spot}
use Rattle.tree_network.specs.Spots.{spot_at}
use Rattle.tree_network.specs.Lists.{those, is_between, spots_at_port}
use Rattle.tree_network.proofs.Those.{those_yes, those_no, those_zero, those_filter, those_pass, eq_true, eq_false, of_eq, of_both}
use Rattle.tree_bounds.specs.Groups.{burst_in, rate_in, longest_of, group_of, is_in_group, spots_in_group, group_list, groups_at}
use Rattle.tree_bounds.specs.Coming.{is_of_queue}
use Rattle.tree_bounds.specs.Grouping.{AreInGroups, FitTogether, IsOfOne, group_of_spot, both_groups, last_with, with_group, with_spot, grouped}
use Rattle.tree_bounds.specs.declared.groups.Group.{Group}

-- ---- one group more
pub with_last : (rest : List Group) (last next : Group) → with_group (rest ++ last ∷ []) next ≡ rest ++ last_with last next
unfolding with_group
with_last [] last next = refl
with_last (g ∷ []) last next = refl
with_last (g ∷ (h ∷ rest)) last next = ap (λ l. g ∷ l) (with_last (h ∷ rest) last next)

pub with_none : (next : Group) → with_group [] next ≡ next ∷ []
unfolding with_group
with_none next = refl

-- all of the groups are of sources before k
abbrev pub AreBefore : ℕ → List Group → Type 0
AreBefore k [] = Unit {0}
AreBefore k (g ∷ groups) = (g.source < k) × AreBefore k groups

with_new : (groups : List Group) (next : Group) → AreBefore next.source groups → with_group groups next ≡ groups ++ next ∷ []
unfolding with_group
with_new [] next b = refl
with_new (g ∷ []) next b = let miss = eq_false g.source next.source (λ e. omega (arith, e, b.0)) in rw miss refl
with_new (g ∷ (h ∷ groups)) next b = ap (λ l. g ∷ l) (with_new (h ∷ groups) next b.1)

before_more : (k : ℕ) (groups : List Group) → AreBefore k groups → AreBefore (suc k) groups
before_more k [] b = tt
before_more k (g ∷ groups) b = (omega (arith, b.0), before_more k groups b.1)

before_both : (k : ℕ) (groups more : List Group) → AreBefore k groups → AreBefore k more → AreBefore k (groups ++ more)
before_both k [] more b c = c
before_both k (g ∷ groups) more b c = (b.0, before_both k groups more b.1 c)

list_before : (spots : List Spot) (line : ℕ → Option Line) (k : ℕ) (numbers : List ℕ) → AreBefore (suc k) (group_list spots line k numbers)
list_before spots line k [] = tt
list_before spots line k (n ∷ numbers) = (omega arith, tt)

pub groups_before : (spots : List Spot) (line : ℕ → Option Line) (s q k : ℕ) → AreBefore k (groups_at spots line s q k)
unfolding groups_at
groups_before spots line s q zero = tt
groups_before spots line s q (suc k) =
    before_both (suc k) (groups_at spots line s q k) (group_list spots line k (spots_in_group spots s q k))
    (before_more k (groups_at spots line s q k) (groups_before spots line s q k)) (list_before spots line k (spots_in_group spots s q k))

-- ---- one spot more
abbrev fields : (k b r l : ℕ) (known : Bool) (count : ℕ) → Group
fields k b r l known count = record { source = k; burst = b; rate = r; longest = l; known = known; count = count }

longest_push : (spots : List Spot) (numbers : List ℕ) (n : ℕ) → longest_of spots (numbers ++ n ∷ []) ≡ max (longest_of spots numbers) (spot_at spots n).frame
unfolding longest_of
longest_push spots [] n = omega arith
longest_push spots (m ∷ numbers) n = let e = longest_push spots numbers n in omega (arith, e)

and_true : (b : Bool) → (b && true) ≡ b
and_true true = refl
and_true false = refl

-- a record by its fields
same_group : (k b r l : ℕ) (known : Bool) (n b2 r2 l2 : ℕ) (known2 : Bool) (n2 : ℕ) → b ≡ b2 → r ≡ r2 → l ≡ l2 → known ≡ known2 → n ≡ n2
    → fields k b r l known n ≡ fields k b2 r2 l2 known2 n2
same_group k b r l known n b2 r2 l2 known2 n2 eb er el ek en =
    ap (λ x. fields k x r l known n) eb ∙ ap (λ y. fields k b2 y l known n) er ∙ ap (λ z. fields k b2 r2 z known n) el
    ∙ ap (λ w. fields k b2 r2 l2 w n) ek ∙ ap (λ m. fields k b2 r2 l2 known2 m) en

pub group_push : (spots : List Spot) (line : ℕ → Option Line) (k : ℕ) (numbers : List ℕ) (n : ℕ)
    → both_groups (group_of spots line k numbers) (group_of_spot (spot_at spots n) (line n)) ≡ group_of spots line k (numbers ++ n ∷ [])
group_push spots line k numbers n =
    same_group k _ _ _ _ _ _ _ _ _ _
    (sym (sum_by-append (λ m. burst_in (line m)) numbers (n ∷ []) ∙ ap (λ x. sum_by (λ m. burst_in (line m)) numbers + x) (zero-add (burst_in (line n)))))
    (sym (sum_by-append (λ m. rate_in (line m)) numbers (n ∷ []) ∙ ap (λ x. sum_by (λ m. rate_in (line m)) numbers + x) (zero-add (rate_in (line n)))))
    (sym (longest_push spots numbers n))
    (sym (list_all-append (λ m. is_some (line m)) numbers (n ∷ []) ∙ ap (λ x. list_all (λ m. is_some (line m)) numbers && x) (and_true (is_some (line n)))))
    (sym (length-append numbers (n ∷ [])))

one_longest : (spots : List Spot) (n : ℕ) → (spot_at spots n).frame ≡ longest_of spots (n ∷ [])
unfolding longest_of
one_longest spots n = omega arith

pub group_one : (spots : List Spot) (line : ℕ → Option Line) (k n : ℕ) → (spot_at spots n).source ≡ k
    → group_of_spot (spot_at spots n) (line n) ≡ group_of spots line k (n ∷ [])
group_one spots line k n e =
    ap (λ x. fields x (burst_in (line n)) (rate_in (line n)) (spot_at spots n).frame (is_some (line n)) 1) e
    ∙ same_group k _ _ _ _ _ _ _ _ _ _ (sym (zero-add (burst_in (line n)))) (sym (zero-add (rate_in (line n)))) (one_longest spots n)
    (sym (and_true (is_some (line n)))) refl

-- ---- the spots of one source
add_one : (spots : List Spot) (line : ℕ → Option Line) (k n : ℕ) (groups : List Group) (numbers : List ℕ) → AreBefore k groups → (spot_at spots n).source ≡ k
    → with_group (groups ++ group_list spots line k numbers) (group_of_spot (spot_at spots n) (line n)) ≡ groups ++ group_list spots line k (numbers ++ n ∷ [])
add_one spots line k n groups [] b e =
    let P : ℕ → Type 0 = λ m. AreBefore m groups in
    ap (λ l. with_group l (group_of_spot (spot_at spots n) (line n))) (append-nil groups)
    ∙ with_new groups (group_of_spot (spot_at spots n) (line n)) (subst P (sym e) b)
    ∙ ap (λ g. groups ++ g ∷ []) (group_one spots line k n e)
add_one spots line k n groups (m ∷ numbers) b e =
    let hit = eq_true k (spot_at spots n).source (sym e) in
    let last : last_with (group_of spots line k (m ∷ numbers)) (group_of_spot (spot_at spots n) (line n))
    ≡ both_groups (group_of spots line k (m ∷ numbers)) (group_of_spot (spot_at spots n) (line n)) ∷ [] = rw hit refl in
    with_last groups (group_of spots line k (m ∷ numbers)) (group_of_spot (spot_at spots n) (line n))
    ∙ ap (λ l. groups ++ l) (last ∙ ap (λ g. g ∷ []) (group_push spots line k (m ∷ numbers) n))

block : (spots : List Spot) (line : ℕ → Option Line) (s q k : ℕ) (groups : List Group) → AreBefore k groups → (n : ℕ)
    → fold (with_spot spots line) groups (those (is_in_group spots s q k) n) ≡ groups ++ group_list spots line k (those (is_in_group spots s q k) n)
block spots line s q k groups b zero =
    ap (λ l. fold (with_spot spots line) groups l) (those_zero (is_in_group spots s q k))
    ∙ sym (append-nil groups) ∙ ap (λ l. groups ++ group_list spots line k l) (sym (those_zero (is_in_group spots s q k)))
block spots line s q k groups b (suc n) = by_test (block spots line s q k groups b n) (is_in_group spots s q k n) refl
  where
    by_test : fold (with_spot spots line) groups (those (is_in_group spots s q k) n) ≡ groups ++ group_list spots line k (those (is_in_group spots s q k) n)
        → (c : Bool) → is_in_group spots s q k n ≡ c
        → fold (with_spot spots line) groups (those (is_in_group spots s q k) (suc n)) ≡ groups ++ group_list spots line k (those (is_in_group spots s q k) (suc n))
    by_test before true e =
        let more = those_yes (is_in_group spots s q k) n e in
        let between = (of_both (is_between spots k s n) ((spot_at spots n).queue == q) e).0 in
        let from = of_eq (spot_at spots n).source k (of_both ((spot_at spots n).source == k) ((spot_at spots n).port == s) between).0 in
        ap (λ l. fold (with_spot spots line) groups l) more
        ∙ fold-append (with_spot spots line) groups (those (is_in_group spots s q k) n) (n ∷ [])
        ∙ ap (λ l. with_spot spots line l n) before
        ∙ add_one spots line k n groups (those (is_in_group spots s q k) n) b from
        ∙ ap (λ l. groups ++ group_list spots line k l) (sym more)
    by_test before false e =
        let same = those_no (is_in_group spots s q k) n e in
        ap (λ l. fold (with_spot spots line) groups l) same ∙ before ∙ ap (λ l. groups ++ group_list spots line k l) (sym same)

-- ---- those of all sources
-- the spots of queue q at port s to which frames come from one of the first sources, in the order of the sources
unfoldable pub spots_in_queue : List Spot → (s q k : ℕ) → List ℕ
spots_in_queue spots s q zero = []
spots_in_queue spots s q (suc k) = spots_in_queue spots s q k ++ spots_in_group spots s q k

pub in_queue : (spots : List Spot) (s q k : ℕ) → filter (is_of_queue spots q) (spots_at_port spots s k) ≡ spots_in_queue spots s q k
unfolding spots_at_port spots_in_queue
in_queue spots s q zero = refl
in_queue spots s q (suc k) =
    filter-append (is_of_queue spots q) (spots_at_port spots s k) (those (is_between spots k s) (length spots))
    ∙ ap₂ (λ (xs ys : List ℕ). xs ++ ys) (in_queue spots s q k) (those_filter (is_between spots k s) (is_of_queue spots q) (length spots))

pub grouped_at : (spots : List Spot) (line : ℕ → Option Line) (s q k : ℕ) → grouped spots line (spots_in_queue spots s q k) ≡ groups_at spots line s q k
unfolding spots_in_queue groups_at
grouped_at spots line s q zero = refl
grouped_at spots line s q (suc k) =
    fold-append (with_spot spots line) [] (spots_in_queue spots s q k) (spots_in_group spots s q k)
    ∙ ap (λ g. fold (with_spot spots line) g (spots_in_group spots s q k)) (grouped_at spots line s q k)
    ∙ block spots line s q k (groups_at spots line s q k) (groups_before spots line s q k) (length spots)

-- they stand one group after the other
its_group : (spots : List Spot) (line : ℕ → Option Line) (s q k : ℕ)
    → AreInGroups spots s q (group_list spots line k (spots_in_group spots s q k)) (spots_in_group spots s q k)
its_group spots line s q k = by_spots (spots_in_group spots s q k) refl
  where
    by_spots : (l : List ℕ) → spots_in_group spots s q k ≡ l → AreInGroups spots s q (group_list spots line k l) l
    by_spots [] e = record { are = refl; counts = λ i d h. absurd (omega (arith, h)) }
    by_spots (m ∷ ms) e = record {
      are = sym e ∙ sym (append-nil (spots_in_group spots s q k));
      counts = λ i d h. one i d h;
    }
      where
        one : (i : ℕ) (d : Group) → i < 1 → let g = get_or (group_of spots line k (m ∷ ms) ∷ []) i d in g.count ≡ length (spots_in_group spots s q g.source)
        one zero d h = sym (ap length e)
        one (suc i) d h = absurd (omega (arith, h))

pub in_groups : (spots : List Spot) (line : ℕ → Option Line) (s q k : ℕ) → AreInGroups spots s q (groups_at spots line s q k) (spots_in_queue spots s q k)
unfolding spots_in_queue groups_at
in_groups spots line s q zero = record { are = refl; counts = λ i d h. absurd (omega (arith, h)) }
in_groups spots line s q (suc k) =
    let before = in_groups spots line s q k in
    let last = its_group spots line s q k in
    let f : Group → List ℕ = λ g. spots_in_group spots s q g.source in
    record {
      are = ap₂ (λ (xs ys : List ℕ). xs ++ ys) before.are last.are
          ∙ sym (flat_map-append f (groups_at spots line s q k) (group_list spots line k (spots_in_group spots s q k)));
      counts = All-append (λ g. g.count ≡ length (f g)) (groups_at spots line s q k) (group_list spots line k (spots_in_group spots s q k)) before.counts last.counts;
    }

-- how many they are
pub counts_are : (spots : List Spot) (s q : ℕ) (groups : List Group) (numbers : List ℕ) → AreInGroups spots s q groups numbers
    → sum_by (λ g. g.count) groups ≡ length numbers
counts_are spots s q groups numbers a =
    let f : Group → List ℕ = λ g. spots_in_group spots s q g.source in
    same_sums groups a.counts ∙ sym (length-flat_map f groups) ∙ ap length (sym a.are)
  where
    same_sums : (gs : List Group) → All (λ g. g.count ≡ length (spots_in_group spots s q g.source)) gs
        → sum_by (λ g. g.count) gs ≡ sum_by (λ g. length (spots_in_group spots s q g.source)) gs
    same_sums [] c = refl
    same_sums (g ∷ gs) c =
        let first = c 0 g (omega arith) in
        let rest = same_sums gs (λ i d h. c (suc i) d (omega (arith, h))) in
        let one = sum_by-cons (λ (w : Group). w.count) g gs in
        let other = sum_by-cons (λ (w : Group). length (spots_in_group spots s q w.source)) g gs in
        omega (arith, first, rest, one, other)

take_own : (xs ys : List ℕ) → take (length xs) (xs ++ ys) ≡ xs
take_own xs ys = take-append-le (length xs) xs ys (omega arith) ∙ take_all (length xs) xs (omega arith)

drop_own : (xs ys : List ℕ) (m : ℕ) → drop (length xs + m) (xs ++ ys) ≡ drop m ys
drop_own [] ys m = ap (λ k. drop k ys) (zero-add m)
drop_own (x ∷ xs) ys m =
    let next : length (x ∷ xs) + m ≡ suc (length xs + m) = omega arith in
    ap (λ k. drop k (x ∷ (xs ++ ys))) next ∙ drop_own xs ys m

-- those of one of the groups
run_by : (f : Group → List ℕ) (groups : List Group) (numbers : List ℕ) (i : ℕ) (d : Group) → numbers ≡ flat_map f groups → All (λ g. g.count ≡ length (f g)) groups
    → i < length groups → take (get_or groups i d).count (drop (sum_by (λ g. g.count) (take i groups)) numbers) ≡ f (get_or groups i d)
run_by f [] numbers i d e c h = absurd (omega (arith, h))
run_by f (g ∷ groups) numbers zero d e c h =
    let first = c 0 g (omega arith) in
    ap (λ l. take g.count l) e ∙ ap (λ m. take m (f g ++ flat_map f groups)) first ∙ take_own (f g) (flat_map f groups)
run_by f (g ∷ groups) numbers (suc i) d e c h =
    let first = c 0 g (omega arith) in
    let sum = sum_by (λ (w : Group). w.count) (take i groups) in
    let count : sum_by (λ (w : Group). w.count) (take (suc i) (g ∷ groups)) ≡ length (f g) + sum =
    let one = sum_by-cons (λ (w : Group). w.count) g (take i groups) in omega (arith, one, first) in
    ap₂ (λ (m : ℕ) (l : List ℕ). take (get_or groups i d).count (drop m l)) count e
    ∙ ap (λ l. take (get_or groups i d).count l) (drop_own (f g) (flat_map f groups) sum)
    ∙ run_by f groups (flat_map f groups) i d refl (λ j b lt. c (suc j) b (omega (arith, lt))) (omega (arith, h))

pub run_of : (spots : List Spot) (s q : ℕ) (groups : List Group) (numbers : List ℕ) (i : ℕ) (d : Group) → AreInGroups spots s q groups numbers → i < length groups
    → take (get_or groups i d).count (drop (sum_by (λ g. g.count) (take i groups)) numbers) ≡ spots_in_group spots s q (get_or groups i d).source
run_of spots s q groups numbers i d a h = run_by (λ g. spots_in_group spots s q g.source) groups numbers i d a.are a.counts h

pub queue_pass : (P : ℕ → Type 0) (spots : List Spot) (s q k : ℕ) → ((n : ℕ) → n < length spots → P n) → All P (spots_in_queue spots s q k)
unfolding spots_in_queue
queue_pass P spots s q zero h = λ i d lt. absurd (omega (arith, lt))
queue_pass P spots s q (suc k) h =
    All-append P (spots_in_queue spots s q k) (spots_in_group spots s q k) (queue_pass P spots s q k h)
    (those_pass P (is_in_group spots s q k) (length spots) (λ n lt e. h n lt))

-- ---- in number
-- after j spots no group has more than so much
pub record IsAtMost (j : ℕ) (g : Group) : Type 0 where
  pub burst : g.burst ≤ j * 2 ^ 64
  pub rate : g.rate ≤ j * 2 ^ 64
  pub count : g.count ≤ j

abbrev pub AreAtMost : ℕ → List Group → Type 0
AreAtMost j [] = Unit {0}
AreAtMost j (g ∷ groups) = IsAtMost j g × AreAtMost j groups

one_more : (j : ℕ) (g : Group) → IsAtMost j g → IsAtMost (j + 1) g
one_more j g m = record { burst = omega (arith, m); rate = omega (arith, m); count = omega (arith, m) }

first_one : (j : ℕ) (next : Group) → IsOfOne next → IsAtMost (j + 1) next
first_one j next one = record { burst = omega (arith, one); rate = omega (arith, one); count = omega (arith, one) }

most_more : (j : ℕ) (groups : List Group) → AreAtMost j groups → AreAtMost (j + 1) groups
most_more j [] m = tt
most_more j (g ∷ groups) m = (one_more j g m.0, most_more j groups m.1)

most_with : (j : ℕ) (groups : List Group) (next : Group) → IsOfOne next → AreAtMost j groups → AreAtMost (j + 1) (with_group groups next)
unfolding with_group
most_with j [] next one m = (first_one j next one, tt)
most_with j (g ∷ []) next one m = by_source (g.source == next.source) refl
  where
    by_source : (c : Bool) → (g.source == next.source) ≡ c → AreAtMost (j + 1) (last_with g next)
    by_source true e =
        let both : IsAtMost (j + 1) (both_groups g next) = record { burst = omega (arith, m.0, one); rate = omega (arith, m.0, one); count = omega (arith, m.0, one) } in
        rw e (both, tt)
    by_source false e = rw e (one_more j g m.0, (first_one j next one, tt))
most_with j (g ∷ (h ∷ groups)) next one m = (one_more j g m.0, most_with j (h ∷ groups) next one m.1)

pub fits_all : (j : ℕ) (groups : List Group) (next : Group) → j < 2 ^ 63 → IsOfOne next → AreAtMost j groups → All (λ g. FitTogether g next) groups
fits_all j [] next few one m = λ k d h. absurd (omega (arith, h))
fits_all j (g ∷ groups) next few one m = λ k d h. at (fits_all j groups next few one m.1) k d h
  where
    at : All (λ g. FitTogether g next) groups → (k : ℕ) (d : Group) → k < length (g ∷ groups) → FitTogether (get_or (g ∷ groups) k d) next
    at rest zero d h = record { burst = omega (arith, few, one, m.0); rate = omega (arith, few, one, m.0); count = omega (arith, few, one, m.0) }
    at rest (suc k) d h = rest k d (omega (arith, h))

-- so far
pub record Grouping (spots : List Spot) (line : ℕ → Option Line) (numbers : List ℕ) (j : ℕ) (groups : List Group) : Type 0 where
  pub is : groups ≡ grouped spots line (take j numbers)
  pub most : AreAtMost j groups

pub no_spot_yet : (spots : List Spot) (line : ℕ → Option Line) (numbers : List ℕ) → Grouping spots line numbers 0 []
no_spot_yet spots line numbers = record { is = refl; most = tt }

pub spot_more : (spots : List Spot) (line : ℕ → Option Line) (numbers : List ℕ) (j : ℕ) (groups : List Group) → j < length numbers
    → IsOfOne (group_of_spot (spot_at spots (get_or numbers j 0)) (line (get_or numbers j 0))) → Grouping spots line numbers j groups
    → Grouping spots line numbers (j + 1) (with_group groups (group_of_spot (spot_at spots (get_or numbers j 0)) (line (get_or numbers j 0))))
spot_more spots line numbers j groups h one g =
    let n = get_or numbers j 0 in
    record {
      is = sym (ap (λ l. grouped spots line l) (take_more numbers j 0 h) ∙ fold-append (with_spot spots line) [] (take j numbers) (n ∷ [])
          ∙ ap (λ l. with_spot spots line l n) (sym g.is));
      most = most_with j groups (group_of_spot (spot_at spots n) (line n)) one g.most;
    }

-- ---- by the last one
pub with_rest : (old rest : List Group) (last next : Group) → old ≡ rest ++ last ∷ [] → with_group old next ≡ rest ++ last_with last next
with_rest old rest last next e = ap (λ l. with_group l next) e ∙ with_last rest last next

pub last_same : (last next : Group) → last.source ≡ next.source → both_groups last next ∷ [] ≡ last_with last next
last_same last next same = let hit = eq_true last.source next.source same in rw hit refl

pub last_other : (last next : Group) → last.source ≢ next.source → last ∷ next ∷ [] ≡ last_with last next
last_other last next other = let miss = eq_false last.source next.source other in rw miss refl

-- where none is left behind the last one
pub nil_of : (groups : List Group) → length groups ≡ 0 → groups ≡ []
nil_of [] e = refl
nil_of (g ∷ groups) e = absurd (omega (arith, e))

pub with_nothing : (old rest : List Group) (next : Group) → old ≡ rest ++ [] → length rest ≡ 0 → with_group old next ≡ rest ++ next ∷ []
with_nothing old rest next e none =
    let empty = nil_of rest none in
    ap (λ l. with_group l next) (e ∙ append-nil rest ∙ empty) ∙ with_none next ∙ ap (λ l. l ++ next ∷ []) (sym empty)
