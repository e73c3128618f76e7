-- The numbers below another that pass a test.
use Rattle.std.proofs.Common.{◌≡◌, ◌≢◌, ℕ, zero, suc, ◌<◌, ◌≤◌, ◌+◌, ◌==◌, ◌&&◌, Bool, true, false, cond, List, [], ◌∷◌, ◌++◌, length, get_or, set, refl, sym, ◌∙◌, ap, subst, arith, inl, inr, add-one, length-append, append-nil, filter, take, append_assoc, get_or-set_same, get_or-set_other}
use Rattle.std.specs.Prelude.{All}
use Rattle.std.specs.List.{Contains, count_by}
use Rattle.std.proofs.lemmas.Bool.{cases_eq, eq-eqb, ne_eqb, eqb-true}
use Rattle.std.proofs.lemmas.List.{length-map, length-set, get_or_append_left, take_more}
use Rattle.std.proofs.lemmas.List.Elements.{All-append, filter-append, Contains-push}
use Rattle.std.proofs.lemmas.List.Sums.{length-filter}
use Rattle.std.specs.declared.vec.Vec.{Vec}
use Rattle.tree_network.specs.declared.spots.Spot.{Spot}
use Rattle.tree_network.specs.Spots.{spot_at}
use Rattle.tree_network.specs.Lists.{lists_of, list_at, those, is_from, is_between, spots_at_port, AreBySource, AreByPort}
use Rattle.tree_network.proofs.ListSets.{each_after_set, list_of}

-- ---- one more
pub those_yes : (test : ℕ → Bool) (n : ℕ) → test n ≡ true → those test (suc n) ≡ those test n ++ n ∷ []
unfolding those
those_yes test n e = ap (λ b. those test n ++ cond b (n ∷ []) []) e

pub those_no : (test : ℕ → Bool) (n : ℕ) → test n ≡ false → those test (suc n) ≡ those test n
unfolding those
those_no test n e = ap (λ b. those test n ++ cond b (n ∷ []) []) e ∙ append-nil (those test n)

pub those_zero : (test : ℕ → Bool) → those test 0 ≡ []
unfolding those
those_zero test = refl

-- ---- by the test
pub those_same : (p q : ℕ → Bool) (n : ℕ) → ((k : ℕ) → k < n → p k ≡ q k) → those p n ≡ those q n
unfolding those
those_same p q zero h = refl
those_same p q (suc n) h =
    ap (λ b. those p n ++ cond b (n ∷ []) []) (h n (omega arith)) ∙ ap (λ l. l ++ cond (q n) (n ∷ []) []) (those_same p q n (λ k lt. h k (omega arith)))

pub those_filter : (p q : ℕ → Bool) (n : ℕ) → filter q (those p n) ≡ those (λ k. p k && q k) n
unfolding those
those_filter p q zero = refl
those_filter p q (suc n) =
    filter-append q (those p n) (cond (p n) (n ∷ []) [])
    ∙ ap (λ l. l ++ filter q (cond (p n) (n ∷ []) [])) (those_filter p q n)
    ∙ ap (λ l. those (λ k. p k && q k) n ++ l) (one (p n) (q n) refl)
  where
    one : (a b : Bool) → q n ≡ b → filter q (cond a (n ∷ []) []) ≡ cond (a && b) (n ∷ []) []
    one false b e = refl
    one true b e = ap (λ c. cond c (n ∷ []) []) e

pub those_pass : (P : ℕ → Type 0) (p : ℕ → Bool) (n : ℕ) → ((k : ℕ) → k < n → p k ≡ true → P k) → All P (those p n)
unfolding those
those_pass P p zero h = λ k d lt. absurd (omega (arith, lt))
those_pass P p (suc n) h =
    All-append P (those p n) (cond (p n) (n ∷ []) []) (those_pass P p n (λ k lt e. h k (omega arith) e)) (last (p n) refl)
  where
    last : (b : Bool) → p n ≡ b → All P (cond b (n ∷ []) [])
    last false e = λ k d lt. absurd (omega (arith, lt))
    last true e = λ k d lt. only k d lt
      where
        only : (k d : ℕ) → k < 1 → P (get_or (n ∷ []) k d)
        only zero d lt = h n (omega arith) e
        only (suc k) d lt = absurd (omega arith)

pub in_left : {X : Type 0} (xs ys : List X) (x : X) → Contains xs x → Contains (xs ++ ys) x
in_left xs ys x c =
    let count = length-append xs ys in
    (c.0, omega (arith, c.1, count), left xs ys x c)
  where
    left : {X : Type 0} (xs ys : List X) (x : X) → (c : Contains xs x) → get_or (xs ++ ys) c.0 x ≡ x
    left xs ys x c = get_or_append_left xs ys x c.0 c.1 ∙ c.2

pub in_right : {X : Type 0} (xs ys : List X) (x : X) → Contains ys x → Contains (xs ++ ys) x
in_right [] ys x c = c
in_right (y ∷ xs) ys x c = let d = in_right xs ys x c in (suc d.0, omega (arith, d.1), d.2)

pub those_has : (p : ℕ → Bool) (n k : ℕ) → k < n → p k ≡ true → Contains (those p n) k
unfolding those
those_has p zero k lt e = absurd (omega arith)
those_has p (suc n) k lt e =
    elim (cases_eq k n) [
      | inl same ↦
          let P : ℕ → Type 0 = λ m. Contains (those p n ++ cond (p n) (n ∷ []) []) m in
          let Q : Bool → Type 0 = λ b. Contains (those p n ++ cond b (n ∷ []) []) n in
          let at : true ≡ p n = sym e ∙ ap p same in
          subst P (sym same) (subst Q at (Contains-push (those p n) n))
      | inr other ↦ in_left (those p n) (cond (p n) (n ∷ []) []) k (those_has p n k (omega arith) e)
    ]

-- ---- how many
abbrev pub one_if : Bool → ℕ
one_if b = cond b 1 0

pub length_more : (p : ℕ → Bool) (n : ℕ) → length (those p (suc n)) ≡ length (those p n) + one_if (p n)
unfolding those
length_more p n = length-append (those p n) (cond (p n) (n ∷ []) []) ∙ ap (λ k. length (those p n) + k) (one (p n))
  where
    one : (b : Bool) → length (cond b (n ∷ []) []) ≡ one_if b
    one true = refl
    one false = refl

pub length_split : (p q r : ℕ → Bool) (n : ℕ) → ((k : ℕ) → k < n → one_if (p k) ≡ one_if (q k) + one_if (r k))
    → length (those p n) ≡ length (those q n) + length (those r n)
length_split p q r zero h = let a = those_zero p in let b = those_zero q in let c = those_zero r in rw (a, b, c) refl
length_split p q r (suc n) h =
    let at = h n (omega arith) in
    let a = length_more p n in let b = length_more q n in let c = length_more r n in
    let e = length_split p q r n (λ k lt. h k (omega arith)) in
    omega (arith, at, a, b, c, e)

pub count_of_those : (p q : ℕ → Bool) (n : ℕ) → count_by q (those p n) ≡ length (those (λ k. p k && q k) n)
count_of_those p q n = sym (length-filter q (those p n)) ∙ ap length (those_filter p q n)

pub those_few : (p : ℕ → Bool) (n : ℕ) → length (those p n) ≤ n
those_few p zero = let z = those_zero p in rw z (omega arith)
those_few p (suc n) =
    let more = length_more p n in
    let few = those_few p n in
    let one = at_most_one (p n) in
    omega (arith, more, few, one)
  where
    at_most_one : (b : Bool) → one_if b ≤ 1
    at_most_one true = omega arith
    at_most_one false = omega arith

pub some_if_any : (p : ℕ → Bool) (n : ℕ) → 0 < length (those p n) → (k : ℕ) × (k < n) × (p k ≡ true)
some_if_any p n h =
    let all = those_pass (λ k. (k < n) × (p k ≡ true)) p n (λ k lt e. (lt, e)) 0 0 h in
    (get_or (those p n) 0 0, all.0, all.1)

-- ---- lists by source
pub record BySourceBelow (spots : List Spot) (sources n : ℕ) (lists : List (List ℕ)) : Type 0 where
  pub count : length lists ≡ sources
  pub each : (k : ℕ) → k < sources → list_at lists k ≡ those (is_from spots k) n

-- the list of a source, as it is read
pub from_source : {Z : Type 0} (spots : List Spot) (count k : ℕ) (sources : List (Vec ℕ Z)) (v : Vec ℕ Z) (list : List ℕ)
    → AreBySource spots count (lists_of sources) → k < count → v ≡ get_or sources k v → list ≡ v.items
    → list ≡ those (is_from spots k) (length spots)
from_source spots count k sources v list by h is e =
    let all = length-map sources (λ v. v.items) in
    e ∙ sym (list_of sources k v (omega (arith, h, all, by.count)) is) ∙ by.each k h

-- and of a port
pub from_port : {Z : Type 0} (spots : List Spot) (ports sources s : ℕ) (at : List (Vec ℕ Z)) (v : Vec ℕ Z) (list : List ℕ)
    → AreByPort spots ports sources (lists_of at) → s < ports → v ≡ get_or at s v → list ≡ v.items → list ≡ spots_at_port spots s sources
from_port spots ports sources s at v list by h is e =
    let all = length-map at (λ v. v.items) in
    e ∙ sym (list_of at s v (omega (arith, h, all, by.count)) is) ∙ by.each s h

pub eq_true : (a b : ℕ) → a ≡ b → (a == b) ≡ true
eq_true a b e = eq-eqb a b e

pub eq_false : (a b : ℕ) → a ≢ b → (a == b) ≡ false
eq_false a b e = ne_eqb a b e

pub sources_more : (spots : List Spot) (sources n : ℕ) (old new : List (List ℕ)) → (spot_at spots n).source < sources
    → new ≡ set old (spot_at spots n).source (list_at old (spot_at spots n).source ++ n ∷ []) → BySourceBelow spots sources n old
    → BySourceBelow spots sources (n + 1) new
sources_more spots sources n old new h e b =
    let P : List (List ℕ) → Type 0 = λ ls. BySourceBelow spots sources (n + 1) ls in
    let s = (spot_at spots n).source in
    let inside : s < length old = omega (arith, h, b.count) in
    subst P (sym e) record {
      count = length-set old s (list_at old s ++ n ∷ []) ∙ b.count;
      each = λ k lt. rw add-one (each_after_set (λ j l. j < sources → l ≡ those (is_from spots j) (suc n)) old s (list_at old s ++ n ∷ []) inside
          (λ m. ap (λ l. l ++ n ∷ []) (b.each s m) ∙ sym (those_yes (is_from spots s) n (eq_true s s refl)))
          (λ j other m. b.each j m ∙ sym (those_no (is_from spots j) n (eq_false s j (λ same. other (sym same))))) k lt);
    }

-- a number is added to the list of its port
pub port_added : (port : ℕ → ℕ) (numbers : List ℕ) (k : ℕ) (first old new : List (List ℕ)) → k < length numbers
    → port (get_or numbers k 0) < length old
    → new ≡ set old (port (get_or numbers k 0)) (list_at old (port (get_or numbers k 0)) ++ get_or numbers k 0 ∷ [])
    → (s : ℕ) → list_at old s ≡ list_at first s ++ filter (λ n. port n == s) (take k numbers)
    → list_at new s ≡ list_at first s ++ filter (λ n. port n == s) (take (k + 1) numbers)
port_added port numbers k first old new h inside e s before =
    let n = get_or numbers k 0 in
    let p = port n in
    let test : ℕ → Bool = λ n. port n == s in
    let front = filter test (take k numbers) in
    let more : filter test (take (k + 1) numbers) ≡ front ++ filter test (n ∷ []) =
    ap (filter test) (take_more numbers k 0 h) ∙ filter-append test (take k numbers) (n ∷ []) in
    ap (λ lists. list_at lists s) e
    ∙ elim (cases_eq s p) [
      | inl same ↦
          let hit = eq_true p s (sym same) in
          ap (λ m. list_at (set old p (list_at old p ++ n ∷ [])) m) same ∙ get_or-set_same old p (list_at old p ++ n ∷ []) [] inside
          ∙ ap (λ m. list_at old m ++ n ∷ []) (sym same) ∙ ap (λ l. l ++ n ∷ []) before ∙ append_assoc (list_at first s) front (n ∷ [])
          ∙ ap (λ l. list_at first s ++ l) (ap (λ b. front ++ cond b (n ∷ []) []) (sym hit) ∙ sym more)
      | inr other ↦
          let miss = eq_false p s (λ same. other (sym same)) in
          get_or-set_other old p s (list_at old p ++ n ∷ []) [] other ∙ before
          ∙ ap (λ l. list_at first s ++ l) (sym (append-nil front) ∙ ap (λ b. front ++ cond b (n ∷ []) []) (sym miss) ∙ sym more)
    ]

pub of_both : (a b : Bool) → (a && b) ≡ true → (a ≡ true) × (b ≡ true)
of_both true true e = (refl, refl)
of_both true false e = absurd (let f : false ≡ true = e in cc)
of_both false b e = absurd (let f : false ≡ true = e in cc)

pub of_eq : (a b : ℕ) → (a == b) ≡ true → a ≡ b
of_eq a b e = eqb-true a b e

-- ---- and by port
pub port_none : (spots : List Spot) (s : ℕ) → spots_at_port spots s 0 ≡ []
unfolding spots_at_port
port_none spots s = refl

pub port_more : (spots : List Spot) (s k : ℕ) → spots_at_port spots s (k + 1) ≡ spots_at_port spots s k ++ those (is_between spots k s) (length spots)
unfolding spots_at_port
port_more spots s k = rw add-one refl

pub port_pass : (P : ℕ → Type 0) (spots : List Spot) (s k : ℕ) → ((n : ℕ) → n < length spots → (spot_at spots n).port ≡ s → P n) → All P (spots_at_port spots s k)
unfolding spots_at_port
port_pass P spots s zero h = λ i d lt. absurd (omega (arith, lt))
port_pass P spots s (suc k) h =
    All-append P (spots_at_port spots s k) (those (is_between spots k s) (length spots)) (port_pass P spots s k h)
    (those_pass P (is_between spots k s) (length spots) (λ n lt e. h n lt (of_eq _ _ (of_both ((spot_at spots n).source == k) ((spot_at spots n).port == s) e).1)))

pub port_has : (spots : List Spot) (s k n : ℕ) → n < length spots → (spot_at spots n).port ≡ s → (spot_at spots n).source < k → Contains (spots_at_port spots s k) n
unfolding spots_at_port
port_has spots s zero n lt e below = absurd (omega arith)
port_has spots s (suc k) n lt e below =
    elim (cases_eq (spot_at spots n).source k) [
      | inl same ↦
          let a = eq_true (spot_at spots n).source k same in
          let b = eq_true (spot_at spots n).port s e in
          in_right (spots_at_port spots s k) (those (is_between spots k s) (length spots)) n
          (those_has (is_between spots k s) (length spots) n lt (rw (a, b) refl))
      | inr other ↦ in_left (spots_at_port spots s k) (those (is_between spots k s) (length spots)) n (port_has spots s k n lt e (omega arith))
    ]
