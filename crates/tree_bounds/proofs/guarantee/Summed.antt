-- What the spots of a queue bring by their stairs is the sum of the parts that runs over trees know.
use Rattle.std.proofs.Common.{◌≡◌, ℕ, zero, suc, ◌+◌, ◌*◌, ◌&&◌, ◌||◌, Bool, true, false, cond, Option, Some, None, List, [], ◌∷◌, ◌++◌, length, map, if◌then◌else◌, refl, sym, ◌∙◌, ap, subst, arith, append-nil}
use Rattle.std.specs.Prelude.{is_some, not}
use Rattle.std.specs.List.{list_all}
use Rattle.std.specs.Option.{option_map}
use Rattle.std.proofs.lemmas.List.{length-map, map-append}
use Rattle.std.proofs.lemmas.List.Folds.{list_all-append, list_all-map}
use Rattle.rational.specs.Rational.{ℚ, ◌+ℚ◌, ◌*ℚ◌}
use Rattle.rational.specs.Extended.{Ext, ◌+ₑ◌, min_ext}
use Rattle.rational.specs.declared.Extended.TheVariants.{Fin, Inf}
use Rattle.rational.proofs.Linear.{with2, with_atoms}
use Rattle.min_plus.specs.Functions.{whole}
use Rattle.net_laws.specs.Sums.{sum_of_curves}
use Rattle.net_laws.specs.paces.Groups.{some_below}
use Rattle.tree_runs.specs.Trees.{flat, flat_tree}
use Rattle.tree_runs.specs.Parts.{is_of_tree_part, has_tree_part, tree_part_curve, tree_parts_curve}
use Rattle.arrival_lines.specs.Grid.{bits, speed}
use Rattle.arrival_lines.specs.declared.grid.Line.{Line}
use Rattle.arrival_lines.specs.declared.grid.Part.{Part}
use Rattle.arrival_lines.proofs.Units.{bits_whole}
use Rattle.arrival_stairs.specs.Stairs.{stair_at, stairs_at}
use Rattle.arrival_stairs.specs.Views.{Bunch}
use Rattle.arrival_stairs.specs.declared.stairs.Stair.{Stair}
use Rattle.arrival_stairs.proofs.OneExcess.{value_by, values_by}
use Rattle.tree_network.specs.Networks.{IsNetwork, port_at}
use Rattle.tree_network.specs.declared.network.Network.{Network}
use Rattle.tree_network.specs.declared.spots.Spot.{Spot}
use Rattle.tree_network.specs.Spots.{spots_of}
use Rattle.tree_network.specs.Lists.{those}
use Rattle.tree_network.proofs.Those.{of_both}
use Rattle.port_bounds.specs.Ports.{server_of}
use Rattle.tree_bounds.specs.Bunches.{stair_list, stairs_among, bunch_of_group, arriving_at}
use Rattle.tree_bounds.specs.Groups.{longest_of, group_of, group_list, groups_at, spots_in_group, part_of, are_bounded}
use Rattle.tree_bounds.specs.Lines.{line_of}
use Rattle.tree_bounds.proofs.Bunched.{among_more}
use Rattle.tree_bounds.specs.guarantee.Routes.{routes_of, tree_of_link}
use Rattle.tree_bounds.proofs.guarantee.Gathered.{number_at, gathered}

-- ---- the curve of a stair; infinite where there is none
abbrev pub curve_of : Option Stair → ℚ → Ext
curve_of None t = Inf
curve_of (Some stair) t = Fin (stair_at stair t)

-- of link i at port s, where `stair n` bounds what comes to spot n
abbrev pub arrival_at : Network → (ℕ → Option Stair) → (i s : ℕ) → ℚ → Ext
arrival_at net stair i s t = curve_of (stair (number_at net s i)) t

abbrev pub longest_at : Network → (s q p : ℕ) → ℕ
longest_at net s q p = longest_of (spots_of net) (spots_in_group (spots_of net) s q (suc p))

abbrev pub rate_at : Network → ℕ → ℚ
rate_at net p = speed (port_at net p).pace

-- ---- stairs together
stairs_push : (ss : List Stair) (s : Stair) (t : ℚ) → stairs_at (ss ++ s ∷ []) t ≡ stairs_at ss t +ℚ stair_at s t
unfolding stairs_at
stairs_push [] s t = let x = stair_at s t in with2 x x (λ c. omega (arith, c.le, c.lt, c.same))
stairs_push (r ∷ rs) s t =
    ap (λ x. stair_at r t +ℚ x) (stairs_push rs s t) ∙ joined (stair_at r t) (stairs_at rs t) (stair_at s t)
  where
    joined : (x y z : ℚ) → x +ℚ (y +ℚ z) ≡ (x +ℚ y) +ℚ z
    joined x y z = with_atoms (x ∷ y ∷ z ∷ []) (λ c. omega (arith, c.le, c.lt, c.same))

one_among : (stair : ℕ → Option Stair) (n : ℕ) (s : Stair) → stair n ≡ Some s → stairs_among stair (n ∷ []) ≡ s ∷ []
unfolding stairs_among
one_among stair n s e = rw e refl

-- the curves of numbers that pass a test, where each has a line
curves_sum : (stair : ℕ → Option Stair) (test : ℕ → Bool) (n : ℕ) (t : ℚ) → list_all (λ i. is_some (line_of (stair i))) (those test n) ≡ true
    → sum_of_curves test (λ i. curve_of (stair i)) n t ≡ Fin (stairs_at (stairs_among stair (those test n)) t)
unfolding those stairs_at stairs_among
curves_sum stair test zero t all = refl
curves_sum stair test (suc n) t all = by_test (λ h. curves_sum stair test n t h) (test n) refl
  where
    known : ℕ → Bool
    known i = is_some (line_of (stair i))

    Before : Type 0
    Before = list_all known (those test n) ≡ true → sum_of_curves test (λ i. curve_of (stair i)) n t ≡ Fin (stairs_at (stairs_among stair (those test n)) t)

    Goal : Bool → Type 0
    Goal b = (if b then sum_of_curves test (λ i. curve_of (stair i)) n t +ₑ curve_of (stair n) t else sum_of_curves test (λ i. curve_of (stair i)) n t)
        ≡ Fin (stairs_at (stairs_among stair (those test n ++ cond b (n ∷ []) [])) t)

    one : Before → (o : Option Stair) → stair n ≡ o → list_all known (those test n ++ n ∷ []) ≡ true → Goal true
    one before None e h =
        let both = of_both (list_all known (those test n)) (list_all known (n ∷ [])) (sym (list_all-append known (those test n) (n ∷ [])) ∙ h) in
        let f : (false && true) ≡ true = ap (λ o. is_some (line_of o) && true) (sym e) ∙ both.1 in absurd (cc)
    one before (Some s) e h =
        let both = of_both (list_all known (those test n)) (list_all known (n ∷ [])) (sym (list_all-append known (those test n) (n ∷ [])) ∙ h) in
        let ss = stairs_among stair (those test n) in
        let more = among_more stair (those test n) (n ∷ []) ∙ ap (λ (rs : List Stair). ss ++ rs) (one_among stair n s e) in
        ap (λ x. x +ₑ curve_of (stair n) t) (before both.0) ∙ ap (λ o. Fin (stairs_at ss t) +ₑ curve_of o t) e
        ∙ ap Fin (sym (stairs_push ss s t))
        ∙ ap (λ (rs : List Stair). Fin (stairs_at rs t)) (sym more)

    by_test : Before → (b : Bool) → test n ≡ b → Goal (test n)
    by_test before true e =
        let K : Bool → Type 0 = λ b. list_all known (those test n ++ cond b (n ∷ []) []) ≡ true in
        subst Goal (sym e) (one before (stair n) refl (subst K e all))
    by_test before false e =
        let K : Bool → Type 0 = λ b. list_all known (those test n ++ cond b (n ∷ []) []) ≡ true in
        let none = append-nil (those test n) in
        subst Goal (sym e) (before (sym (ap (list_all known) none) ∙ subst K e all) ∙ ap (λ l. Fin (stairs_at (stairs_among stair l) t)) (sym none))

-- ---- a part
among_map : (stair : ℕ → Option Stair) (g : ℕ → ℕ) (xs : List ℕ) → stairs_among stair (map g xs) ≡ stairs_among (λ n. stair (g n)) xs
unfolding stairs_among
among_map stair g [] = refl
among_map stair g (x ∷ xs) = ap (λ (ss : List Stair). stair_list (stair (g x)) ++ ss) (among_map stair g xs)

flows_are : (net : Network) → length (flat (routes_of net)).flows ≡ length net.links.items
flows_are net = length-map (map tree_of_link net.links.items) flat_tree ∙ length-map net.links.items tree_of_link

-- the curves of a part's links
pub links_bring : (net : Network) (stair : ℕ → Option Stair) (s q k : ℕ) (t : ℚ) → IsNetwork net
    → (group_of (spots_of net) (λ n. line_of (stair n)) k (spots_in_group (spots_of net) s q k)).known ≡ true
    → sum_of_curves (is_of_tree_part (routes_of net) s q k) (λ i. arrival_at net stair i s) (length (flat (routes_of net)).flows) t
    ≡ Fin (stairs_at (stairs_among stair (spots_in_group (spots_of net) s q k)) t)
links_bring net stair s q k t w known =
    ap (λ n. sum_of_curves test (λ i. arrival_at net stair i s) n t) (flows_are net)
    ∙ curves_sum (λ i. stair (number_at net s i)) test n t
    (sym (list_all-map (λ m. is_some (line_of (stair m))) (number_at net s) (those test n)) ∙ ap (list_all (λ m. is_some (line_of (stair m)))) (sym (gathered net s q k w)) ∙ known)
    ∙ ap (λ (ss : List Stair). Fin (stairs_at ss t)) (sym (among_map stair (number_at net s) (those test n)))
    ∙ ap (λ l. Fin (stairs_at (stairs_among stair l) t)) (sym (gathered net s q k w))
  where
    test : ℕ → Bool
    test = is_of_tree_part (routes_of net) s q k

    n : ℕ
    n = length net.links.items

abbrev pub bunch_at : Network → (ℕ → Option Stair) → (s q k : ℕ) → Bunch
bunch_at net stair s q k =
    bunch_of_group net (spots_of net) stair s q (group_of (spots_of net) (λ n. line_of (stair n)) k (spots_in_group (spots_of net) s q k))

pub part_brings : (net : Network) (stair : ℕ → Option Stair) (s q k : ℕ) (t : ℚ) → IsNetwork net
    → (group_of (spots_of net) (λ n. line_of (stair n)) k (spots_in_group (spots_of net) s q k)).known ≡ true
    → tree_part_curve (routes_of net) s q (λ i. arrival_at net stair i s) (longest_at net s q) (rate_at net) k t ≡ Fin (value_by (bunch_at net stair s q k) t)
part_brings net stair s q zero t w known = links_bring net stair s q 0 t w known
part_brings net stair s q (suc p) t w known =
    ap (λ x. min_ext x (Fin (whole l +ℚ rate_at net p *ℚ t))) (links_bring net stair s q (suc p) t w known)
    ∙ ap (λ b. min_ext (Fin (stairs_at (stairs_among stair (spots_in_group (spots_of net) s q (suc p))) t)) (Fin (b +ℚ rate_at net p *ℚ t))) (sym burst)
  where
    l : ℕ
    l = longest_at net s q p

    burst : bits (l * 1024) ≡ whole l
    burst = let e : l * 1024 ≡ 1024 * l = omega arith in ap bits e ∙ bits_whole l

-- ---- all parts
abbrev is_empty : List ℕ → Bool
is_empty [] = true
is_empty (x ∷ xs) = false

some_is : (test : ℕ → Bool) (n : ℕ) → some_below test n ≡ not (is_empty (those test n))
unfolding those
some_is test zero = refl
some_is test (suc n) = ap (λ b. b || test n) (some_is test n) ∙ one (those test n) (test n)
  where
    one : (l : List ℕ) (b : Bool) → (not (is_empty l) || b) ≡ not (is_empty (l ++ cond b (n ∷ []) []))
    one [] true = refl
    one [] false = refl
    one (x ∷ xs) b = refl

map_empty : (f : ℕ → ℕ) (xs : List ℕ) → is_empty (map f xs) ≡ is_empty xs
map_empty f [] = refl
map_empty f (x ∷ xs) = refl

-- a queue has a part where it has a spot of it
has_spots : (net : Network) (s q k : ℕ) → IsNetwork net → has_tree_part (routes_of net) s q k ≡ not (is_empty (spots_in_group (spots_of net) s q k))
has_spots net s q k w =
    let test = is_of_tree_part (routes_of net) s q k in
    let n = length net.links.items in
    ap (some_below test) (flows_are net) ∙ some_is test n ∙ ap not (sym (map_empty (number_at net s) (those test n)))
    ∙ ap (λ l. not (is_empty l)) (sym (gathered net s q k w))

abbrev curves_to : Network → (ℕ → Option Stair) → (s q k : ℕ) → ℚ → Ext
curves_to net stair s q k t =
    sum_of_curves (has_tree_part (routes_of net) s q) (tree_part_curve (routes_of net) s q (λ i. arrival_at net stair i s) (longest_at net s q) (rate_at net)) k t

values_push : (ws : List Bunch) (w : Bunch) (t : ℚ) → values_by (ws ++ w ∷ []) t ≡ values_by ws t +ℚ value_by w t
unfolding values_by
values_push [] w t = let x = value_by w t in with2 x x (λ c. omega (arith, c.le, c.lt, c.same))
values_push (u ∷ us) w t =
    ap (λ x. value_by u t +ℚ x) (values_push us w t) ∙ joined (value_by u t) (values_by us t) (value_by w t)
  where
    joined : (x y z : ℚ) → x +ℚ (y +ℚ z) ≡ (x +ℚ y) +ℚ z
    joined x y z = with_atoms (x ∷ y ∷ z ∷ []) (λ c. omega (arith, c.le, c.lt, c.same))

parts_bring : (net : Network) (stair : ℕ → Option Stair) (s q k : ℕ) (t : ℚ) → IsNetwork net
    → list_all (λ g. g.known) (groups_at (spots_of net) (λ n. line_of (stair n)) s q k) ≡ true
    → curves_to net stair s q k t ≡ Fin (values_by (map (bunch_of_group net (spots_of net) stair s q) (groups_at (spots_of net) (λ n. line_of (stair n)) s q k)) t)
unfolding groups_at values_by
parts_bring net stair s q zero t w all = refl
parts_bring net stair s q (suc k) t w all = by_spots (λ h. parts_bring net stair s q k t w h) (spots_in_group (spots_of net) s q k) refl
  where
    spots : List Spot
    spots = spots_of net

    line : ℕ → Option Line
    line n = line_of (stair n)

    Before : Type 0
    Before = list_all (λ g. g.known) (groups_at spots line s q k) ≡ true
        → curves_to net stair s q k t ≡ Fin (values_by (map (bunch_of_group net spots stair s q) (groups_at spots line s q k)) t)

    part : ℚ → Ext
    part t = tree_part_curve (routes_of net) s q (λ i. arrival_at net stair i s) (longest_at net s q) (rate_at net) k t

    Goal : Bool → List ℕ → Type 0
    Goal b l = (if b then curves_to net stair s q k t +ₑ part t else curves_to net stair s q k t)
        ≡ Fin (values_by (map (bunch_of_group net spots stair s q) (groups_at spots line s q k ++ group_list spots line k l)) t)

    none : Before → list_all (λ g. g.known) (groups_at spots line s q k ++ []) ≡ true → Goal false []
    none before h =
        let plain = append-nil (groups_at spots line s q k) in
        before (sym (ap (list_all (λ g. g.known)) plain) ∙ h) ∙ ap (λ l. Fin (values_by (map (bunch_of_group net spots stair s q) l) t)) (sym plain)

    some : Before → (m : ℕ) (ms : List ℕ) → spots_in_group spots s q k ≡ m ∷ ms
        → list_all (λ g. g.known) (groups_at spots line s q k ++ group_of spots line k (m ∷ ms) ∷ []) ≡ true → Goal true (m ∷ ms)
    some before m ms e h =
        let gs = groups_at spots line s q k in
        let last = group_of spots line k (m ∷ ms) ∷ [] in
        let both = of_both (list_all (λ g. g.known) gs) (list_all (λ g. g.known) last) (sym (list_all-append (λ g. g.known) gs last) ∙ h) in
        let own = of_both (group_of spots line k (m ∷ ms)).known true both.1 in
        let known = ap (λ l. (group_of spots line k l).known) e ∙ own.0 in
        let x = values_by (map (bunch_of_group net spots stair s q) gs) t in
        ap (λ z. z +ₑ part t) (before both.0) ∙ ap (λ z. Fin x +ₑ z) (part_brings net stair s q k t w known)
        ∙ ap Fin (sym (values_push (map (bunch_of_group net spots stair s q) gs) (bunch_at net stair s q k) t))
        ∙ ap (λ l. Fin (values_by (map (bunch_of_group net spots stair s q) gs ++ bunch_of_group net spots stair s q (group_of spots line k l) ∷ []) t)) e
        ∙ ap (λ (ws : List Bunch). Fin (values_by ws t)) (sym (map-append (bunch_of_group net spots stair s q) gs last))

    by_spots : Before → (l : List ℕ) → spots_in_group spots s q k ≡ l → Goal (has_tree_part (routes_of net) s q k) (spots_in_group spots s q k)
    by_spots before [] e =
        let has = has_spots net s q k w ∙ ap (λ l. not (is_empty l)) e in
        let P : List ℕ → Type 0 = λ l. list_all (λ g. g.known) (groups_at spots line s q k ++ group_list spots line k l) ≡ true in
        let A : Bool → Type 0 = λ b. Goal b (spots_in_group spots s q k) in
        let B : List ℕ → Type 0 = λ l. Goal false l in
        subst A (sym has) (subst B (sym e) (none before (subst P e all)))
    by_spots before (m ∷ ms) e =
        let has = has_spots net s q k w ∙ ap (λ l. not (is_empty l)) e in
        let P : List ℕ → Type 0 = λ l. list_all (λ g. g.known) (groups_at spots line s q k ++ group_list spots line k l) ≡ true in
        let A : Bool → Type 0 = λ b. Goal b (spots_in_group spots s q k) in
        let B : List ℕ → Type 0 = λ l. Goal true l in
        subst A (sym has) (subst B (sym e) (some before m ms e (subst P e all)))

-- ---- a queue
from_if : (b : Bool) (parts : List Part) (xs ws : List Bunch) → option_map (λ (ps : List Part). xs) (if b then Some parts else None) ≡ Some ws → (b ≡ true) × (xs ≡ ws)
from_if true parts xs ws e = (refl, cc)
from_if false parts xs ws e = absurd (let f : None ≡ Some ws = e in cc)

pub queue_brings : (net : Network) (stair : ℕ → Option Stair) (s q : ℕ) (ws : List Bunch) (t : ℚ) → IsNetwork net
    → (arriving_at net (spots_of net) stair s q).bunches ≡ Some ws
    → tree_parts_curve (routes_of net) s q (λ i. arrival_at net stair i s) (longest_at net s q) (rate_at net) t ≡ Fin (values_by ws t)
queue_brings net stair s q ws t w e =
    let gs = groups_at (spots_of net) (λ n. line_of (stair n)) s q (length net.ports.items + 1) in
    let is = from_if (list_all (λ g. g.known) gs && are_bounded (map (part_of net) gs)) (map (part_of net) gs) (map (bunch_of_group net (spots_of net) stair s q) gs) ws e in
    let known = of_both (list_all (λ g. g.known) gs) (are_bounded (map (part_of net) gs)) is.0 in
    let count : suc (length (map server_of net.ports.items)) ≡ length net.ports.items + 1 = let c = length-map net.ports.items server_of in omega (arith, c) in
    ap (λ k. curves_to net stair s q k t) count
    ∙ parts_bring net stair s q (length net.ports.items + 1) t w known.0
    ∙ ap (λ (us : List Bunch). Fin (values_by us t)) is.1
