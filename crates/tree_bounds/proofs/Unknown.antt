-- A queue of whose links one has no line has no parts, and where it has none, one has no line or the sums pass their limits.
use Rattle.std.proofs.Common.{◌≡◌, ◌⊎◌, ℕ, zero, suc, ◌<◌, ◌≤◌, ◌+◌, ◌^◌, ◌==◌, ◌&&◌, Bool, true, false, Option, Some, None, List, [], ◌∷◌, length, get_or, map, nat_lt, refl, sym, ◌∙◌, ap, ap₂, subst, arith, inl, inr}
use Rattle.std.specs.Prelude.{All, is_some}
use Rattle.std.specs.List.{Contains, list_all, sum_by}
use Rattle.std.proofs.lemmas.Bool.{cases_eq, cases_lt}
use Rattle.std.proofs.lemmas.Bool.Decides.{nat_tests}
use Rattle.std.proofs.lemmas.List.Folds.{list_all-append}
use Rattle.arrival_lines.specs.declared.grid.Line.{Line}
use Rattle.tree_network.specs.declared.network.Network.{Network}
use Rattle.tree_network.specs.declared.spots.Spot.{Spot}
use Rattle.tree_network.specs.Spots.{spot_at}
use Rattle.tree_network.proofs.Those.{eq_true, of_both, of_eq, those_has, those_pass}
use Rattle.tree_bounds.specs.Groups.{is_in_group, spots_in_group, longest_of, group_list, groups_at, part_of, parts_in, sum_burst, sum_rate}
use Rattle.tree_bounds.specs.declared.groups.Group.{Group}
use Rattle.tree_bounds.proofs.PartsMade.{parts_made}

-- ---- tests on lists of numbers
pub below_is : (a b : ℕ) → a < b → nat_lt a b ≡ true
below_is a b h = grind (arith, nat_tests)

never_right : (b : Bool) → (b && false) ≡ false
never_right true = refl
never_right false = refl

-- one that fails, and so not all pass
one_fails : (p : ℕ → Bool) (xs : List ℕ) (m : ℕ) → Contains xs m → p m ≡ false → list_all p xs ≡ false
one_fails p [] m c e = absurd (let h = c.1 in omega (arith, h))
one_fails p (x ∷ xs) m (zero, h, is) e = ap (λ b. b && list_all p xs) (ap p is ∙ e)
one_fails p (x ∷ xs) m (suc i, h, is) e = ap (λ b. p x && b) (one_fails p xs m (i, omega (arith, h), is) e) ∙ never_right (p x)

-- not all pass, and so one fails
record Fails (p : ℕ → Bool) (xs : List ℕ) : Type 0 where
  place : ℕ
  inside : place < length xs
  is : p (get_or xs place 0) ≡ false

some_fails : (p : ℕ → Bool) (xs : List ℕ) → list_all p xs ≡ false → Fails p xs
some_fails p [] e = absurd (let f : true ≡ false = e in cc)
some_fails p (x ∷ xs) e = by_first (λ f. some_fails p xs f) (p x) refl
  where
    by_first : (list_all p xs ≡ false → Fails p xs) → (b : Bool) → p x ≡ b → Fails p (x ∷ xs)
    by_first rest false f = record { place = 0; inside = omega arith; is = f }
    by_first rest true f =
        let later = rest (sym (ap (λ b. b && list_all p xs) f) ∙ e) in
        record { place = suc later.place; inside = let h = later.inside in omega (arith, h); is = later.is }

-- ---- of the spots of a queue
pub frame_has : (spots : List Spot) (xs : List ℕ) (m : ℕ) → Contains xs m → (spot_at spots m).frame ≤ longest_of spots xs
unfolding longest_of
frame_has spots [] m c = absurd (let h = c.1 in omega (arith, h))
frame_has spots (x ∷ xs) m (zero, h, is) = let e = ap (λ n. (spot_at spots n).frame) is in omega (arith, e)
frame_has spots (x ∷ xs) m (suc i, h, is) = let r = frame_has spots xs m (i, omega (arith, h), is) in omega (arith, r)

-- a spot that has no line
pub record Unknown (spots : List Spot) (line_at : ℕ → Option Line) (s p : ℕ) : Type 0 where
  pub number : ℕ
  pub inside : number < length spots
  pub port : (spot_at spots number).port ≡ s
  pub queue : (spot_at spots number).queue ≡ p
  pub none : is_some (line_at number) ≡ false

module _ (spots : List Spot) (line_at : ℕ → Option Line) (s p : ℕ) where
  group_unknown : (k : ℕ) (xs : List ℕ) (m : ℕ) → Contains xs m → is_some (line_at m) ≡ false → list_all (λ g. g.known) (group_list spots line_at k xs) ≡ false
  group_unknown k [] m c e = absurd (let h = c.1 in omega (arith, h))
  group_unknown k (x ∷ xs) m c e = ap (λ b. b && true) (one_fails (λ n. is_some (line_at n)) (x ∷ xs) m c e)

  groups_unknown : (k m n : ℕ) → k < n → Contains (spots_in_group spots s p k) m → is_some (line_at m) ≡ false
      → list_all (λ g. g.known) (groups_at spots line_at s p n) ≡ false
  unfolding groups_at
  groups_unknown k m zero h c e = absurd (omega (arith, h))
  groups_unknown k m (suc n) h c e =
      let old = groups_at spots line_at s p n in
      let new = group_list spots line_at n (spots_in_group spots s p n) in
      list_all-append (λ (g : Group). g.known) old new
      ∙ elim (cases_eq k n) [
        | inl same ↦
            let here = subst (λ (j : ℕ). Contains (spots_in_group spots s p j) m) same c in
            ap (λ b. list_all (λ (g : Group). g.known) old && b) (group_unknown n (spots_in_group spots s p n) m here e) ∙ never_right (list_all (λ (g : Group). g.known) old)
        | inr other ↦ ap (λ b. b && list_all (λ (g : Group). g.known) new) (groups_unknown k m n (omega (arith, h, other)) c e)
      ]

  pub in_group : (m : ℕ) → m < length spots → (spot_at spots m).port ≡ s → (spot_at spots m).queue ≡ p → Contains (spots_in_group spots s p (spot_at spots m).source) m
  in_group m h port queue =
      let k = (spot_at spots m).source in
      let a = eq_true k k refl in
      let b = eq_true (spot_at spots m).port s port in
      let c = eq_true (spot_at spots m).queue p queue in
      those_has (is_in_group spots s p k) (length spots) m h (rw (a, b, c) refl)

  -- each of a group is of the queue
  all_of : (k : ℕ) → All (λ n. (n < length spots) × ((spot_at spots n).port ≡ s) × ((spot_at spots n).queue ≡ p)) (spots_in_group spots s p k)
  all_of k = those_pass (λ n. (n < length spots) × ((spot_at spots n).port ≡ s) × ((spot_at spots n).queue ≡ p)) (is_in_group spots s p k) (length spots)
      (λ n h e.
      let outer = of_both (((spot_at spots n).source == k) && ((spot_at spots n).port == s)) ((spot_at spots n).queue == p) e in
      let inner = of_both ((spot_at spots n).source == k) ((spot_at spots n).port == s) outer.0 in
      (h, of_eq (spot_at spots n).port s inner.1, of_eq (spot_at spots n).queue p outer.1))

  one_unknown : (k : ℕ) (xs : List ℕ) → All (λ n. (n < length spots) × ((spot_at spots n).port ≡ s) × ((spot_at spots n).queue ≡ p)) xs
      → list_all (λ g. g.known) (group_list spots line_at k xs) ≡ false → Unknown spots line_at s p
  one_unknown k [] each e = absurd (let f : true ≡ false = e in cc)
  one_unknown k (x ∷ xs) each e =
      let fails = some_fails (λ n. is_some (line_at n)) (x ∷ xs) (with_true (list_all (λ n. is_some (line_at n)) (x ∷ xs)) e) in
      let of = each fails.place 0 fails.inside in
      record { number = get_or (x ∷ xs) fails.place 0; inside = of.0; port = of.1; queue = of.2; none = fails.is }
    where
      with_true : (b : Bool) → (b && true) ≡ false → b ≡ false
      with_true true f = f
      with_true false f = refl

  some_unknown : (n : ℕ) → list_all (λ g. g.known) (groups_at spots line_at s p n) ≡ false → Unknown spots line_at s p
  unfolding groups_at
  some_unknown zero e = absurd (let f : true ≡ false = e in cc)
  some_unknown (suc n) e =
      by_old (λ f. some_unknown n f) (list_all (λ (g : Group). g.known) (groups_at spots line_at s p n)) refl
      (sym (list_all-append (λ (g : Group). g.known) (groups_at spots line_at s p n) (group_list spots line_at n (spots_in_group spots s p n))) ∙ e)
    where
      by_old : (list_all (λ g. g.known) (groups_at spots line_at s p n) ≡ false → Unknown spots line_at s p) → (b : Bool)
          → list_all (λ g. g.known) (groups_at spots line_at s p n) ≡ b
          → (list_all (λ g. g.known) (groups_at spots line_at s p n) && list_all (λ g. g.known) (group_list spots line_at n (spots_in_group spots s p n))) ≡ false
          → Unknown spots line_at s p
      by_old rest false f g = rest f
      by_old rest true f g =
          one_unknown n (spots_in_group spots s p n) (all_of n)
          (sym (ap (λ b. b && list_all (λ (w : Group). w.known) (group_list spots line_at n (spots_in_group spots s p n))) f) ∙ g)

-- ---- parts that are none
no_parts_by : (net : Network) (groups : List Group) → list_all (λ g. g.known) groups ≡ false → parts_in net groups ≡ None
no_parts_by net groups e = rw e refl

abbrev PassTogether : Network → List Group → Type 0
PassTogether net groups = (2 ^ 58 ≤ sum_by sum_burst (map (part_of net) groups)) ⊎ (2 ^ 50 ≤ sum_by sum_rate (map (part_of net) groups))

none_by_either : (net : Network) (groups : List Group) → parts_in net groups ≡ None → (list_all (λ g. g.known) groups ≡ false) ⊎ PassTogether net groups
none_by_either net groups none = by_known (list_all (λ (g : Group). g.known) groups) refl
  where
    bounded : list_all (λ g. g.known) groups ≡ true → sum_by sum_burst (map (part_of net) groups) < 2 ^ 58 → sum_by sum_rate (map (part_of net) groups) < 2 ^ 50 → ⊥
    bounded e low slow =
        let a = below_is (sum_by sum_burst (map (part_of net) groups)) (2 ^ 58) low in
        let b = below_is (sum_by sum_rate (map (part_of net) groups)) (2 ^ 50) slow in
        let is = parts_made net groups (map (part_of net) groups) true refl e (sym (ap₂ (λ (x y : Bool). x && y) a b)) in
        let f : Some (map (part_of net) groups) ≡ None = is ∙ none in
        absurd (cc)

    by_known : (b : Bool) → list_all (λ g. g.known) groups ≡ b → (list_all (λ g. g.known) groups ≡ false) ⊎ PassTogether net groups
    by_known false e = inl e
    by_known true e = elim (cases_lt (sum_by sum_burst (map (part_of net) groups)) (2 ^ 58)) [
      | inr much ↦ inr (inl much)
      | inl low ↦ elim (cases_lt (sum_by sum_rate (map (part_of net) groups)) (2 ^ 50)) [
        | inr fast ↦ inr (inr fast)
        | inl slow ↦ absurd (bounded e low slow)
      ]
    ]

-- ---- of a queue
pub none_unknown : (net : Network) (spots : List Spot) (line_at : ℕ → Option Line) (s p m : ℕ) → m < length spots → (spot_at spots m).port ≡ s → (spot_at spots m).queue ≡ p
    → (spot_at spots m).source < length net.ports.items + 1 → is_some (line_at m) ≡ false → parts_in net (groups_at spots line_at s p (length net.ports.items + 1)) ≡ None
none_unknown net spots line_at s p m inside port queue few e =
    no_parts_by net (groups_at spots line_at s p (length net.ports.items + 1))
    (groups_unknown spots line_at s p (spot_at spots m).source m (length net.ports.items + 1) few (in_group spots line_at s p m inside port queue) e)

pub why_none : (net : Network) (spots : List Spot) (line_at : ℕ → Option Line) (s p : ℕ) → parts_in net (groups_at spots line_at s p (length net.ports.items + 1)) ≡ None
    → Unknown spots line_at s p ⊎ ((2 ^ 58 ≤ sum_by sum_burst (map (part_of net) (groups_at spots line_at s p (length net.ports.items + 1))))
    ⊎ (2 ^ 50 ≤ sum_by sum_rate (map (part_of net) (groups_at spots line_at s p (length net.ports.items + 1)))))
why_none net spots line_at s p none = elim (none_by_either net (groups_at spots line_at s p (length net.ports.items + 1)) none) [
  | inl unknown ↦ inl (some_unknown spots line_at s p (length net.ports.items + 1) unknown)
  | inr over ↦ inr over
]
