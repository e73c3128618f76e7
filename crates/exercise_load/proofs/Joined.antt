-- Members of lists that are mapped, filtered and joined, and pairs of them.
use Rattle.std.proofs.Common.{◌≡◌, ℕ, zero, suc, ◌<◌, ◌≤◌, ◌+◌, ◌*◌, List, [], ◌∷◌, ◌++◌, length, get_or, map, inl, inr, refl, sym, ap, ◌∙◌, subst, arith, Bool, true, false, cond, map-id}
use Rattle.std.specs.Prelude.{◌⊎◌, AllPairs, Contains}
use Rattle.std.specs.List.{filter, flat_map, range_with_len}
use Rattle.std.proofs.lemmas.Bool.{cond-true}
use Rattle.std.proofs.lemmas.List.{get_or-map, get_or_default, length-append, length-map}
use Rattle.std.proofs.lemmas.List.FromFn.{get_or-range_with_len, length-range_with_len, map-range_with_len_more}
use Rattle.net_model.proofs.net_graph.Members.{kept_left}

-- ---- by place
pub at_place : {X : Type 0} (xs : List X) (k : ℕ) (d : X) → k < length xs → Contains xs (get_or xs k d)
at_place xs k d l = (k, l, get_or_default xs k (get_or xs k d) d l)

-- ---- one more number in a row
pub range_grows : (a n : ℕ) → range_with_len a (n + 1) ≡ range_with_len a n ++ (a + n) ∷ []
range_grows a n =
    sym (map-id (range_with_len a (n + 1))) ∙ map-range_with_len_more (λ (x : ℕ). x) a n (a + n) refl
    ∙ ap (λ (xs : List ℕ). xs ++ (a + n) ∷ []) (map-id (range_with_len a n))

-- ---- joined lists
later : {X : Type 0} (xs ys : List X) (x : X) → Contains ys x → Contains (xs ++ ys) x
later [] ys x h = h
later (z ∷ xs) ys x h = let there = later xs ys x h in (suc there.0, let l = there.1 in omega arith, there.2)

split : {X : Type 0} (xs ys : List X) (x : X) → Contains (xs ++ ys) x → Contains xs x ⊎ Contains ys x
split [] ys x h = inr h
split (z ∷ xs) ys x (zero, l, e) = inl (0, omega arith, e)
split (z ∷ xs) ys x (suc k, l, e) = elim (split xs ys x (k, omega (arith, l), e)) [
  | inl there ↦ inl (suc there.0, let m = there.1 in omega arith, there.2)
  | inr there ↦ inr there
]

pub in_flat : {X Y : Type 0} (f : X → List Y) (xs : List X) (i : ℕ) (d : X) (y : Y) → i < length xs
    → Contains (f (get_or xs i d)) y → Contains (flat_map f xs) y
in_flat f [] i d y l h = absurd (omega (arith, l))
in_flat f (x ∷ xs) zero d y l h = kept_left (f x) (flat_map f xs) y h
in_flat f (x ∷ xs) (suc i) d y l h = later (f x) (flat_map f xs) y (in_flat f xs i d y (omega (arith, l)) h)

-- the list that a member comes from
pub record Source {X Y : Type 0} (f : X → List Y) (xs : List X) (y : Y) : Type 0 where
  pub place : ℕ
  pub within : place < length xs
  pub here : (d : X) → Contains (f (get_or xs place d)) y

pub from_flat : {X Y : Type 0} (f : X → List Y) (xs : List X) (y : Y) → Contains (flat_map f xs) y → Source f xs y
from_flat f [] y h = let l = h.1 in absurd (omega arith)
from_flat f (x ∷ xs) y h = elim (split (f x) (flat_map f xs) y h) [
  | inl here ↦ record { place = 0; within = omega arith; here = λ d. here }
  | inr there ↦
      let s = from_flat f xs y there in
      record { place = suc s.place; within = let l = s.within in omega arith; here = s.here }
]

pub short_flat : {Y : Type 0} (f : ℕ → List Y) (most a n : ℕ) → ((k : ℕ) → length (f k) ≤ most)
    → length (flat_map f (range_with_len a n)) ≤ n * most
short_flat f most a zero h = omega arith
short_flat f most a (suc n) h =
    let rest = short_flat f most (a + 1) n h in
    let here = h a in
    let whole = length-append (f a) (flat_map f (range_with_len (a + 1) n)) in
    omega arith

-- ---- mapped lists
pub in_map : {X Y : Type 0} (f : X → Y) (xs : List X) (x : X) → Contains xs x → Contains (map f xs) (f x)
in_map f [] x h = let l = h.1 in absurd (omega arith)
in_map f (z ∷ xs) x (zero, l, e) = (0, omega arith, ap f e)
in_map f (z ∷ xs) x (suc k, l, e) =
    let there = in_map f xs x (k, omega (arith, l), e) in
    (suc there.0, let m = there.1 in omega arith, there.2)

pub record MappedFrom {X Y : Type 0} (f : X → Y) (xs : List X) (y : Y) : Type 0 where
  pub source : X
  pub there : Contains xs source
  pub is : f source ≡ y

pub from_map : {X Y : Type 0} (f : X → Y) (xs : List X) (y : Y) → Contains (map f xs) y → MappedFrom f xs y
from_map f [] y h = let l = h.1 in absurd (omega arith)
from_map f (z ∷ xs) y (zero, l, e) = record { source = z; there = (0, omega arith, refl); is = e }
from_map f (z ∷ xs) y (suc k, l, e) =
    let s = from_map f xs y (k, omega (arith, l), e) in
    let c = s.there in
    record { source = s.source; there = (suc c.0, let m = c.1 in omega arith, c.2); is = s.is }

pub pairs_map : {X Y : Type 0} (R : Y → Y → Type 0) (f : X → Y) (xs : List X) → AllPairs (λ a b. R (f a) (f b)) xs
    → AllPairs R (map f xs)
pairs_map R f [] h i j d b l = absurd (omega (arith, l))
pairs_map {X} {Y} R f (x ∷ xs) h i j d b l =
    let long = length-map (x ∷ xs) f in
    let there : j < length (x ∷ xs) = omega (arith, l, long) in
    let here : i < length (x ∷ xs) = omega (arith, b, there) in
    let P : Y → Type 0 = λ y. R y (get_or (map f (x ∷ xs)) j d) in
    let Q : Y → Type 0 = λ y. R (f (get_or (x ∷ xs) i x)) y in
    subst P (sym (get_or-map f (x ∷ xs) i x d here)) (subst Q (sym (get_or-map f (x ∷ xs) j x d there)) (h i j x b there))

-- ---- filtered lists
pub in_filter : {X : Type 0} (p : X → Bool) (xs : List X) (x : X) → Contains xs x → p x ≡ true → Contains (filter p xs) x
in_filter p [] x h e = let l = h.1 in absurd (omega arith)
in_filter {X} p (z ∷ xs) x (zero, l, is) e =
    let P : List X → Type 0 = λ ys. Contains ys x in
    subst P (sym (cond-true (p z) (z ∷ filter p xs) (filter p xs) (ap p is ∙ e))) (0, omega arith, is)
in_filter {X} p (z ∷ xs) x (suc k, l, is) e = kept (p z) (in_filter p xs x (k, omega (arith, l), is) e)
  where
    kept : (b : Bool) → Contains (filter p xs) x → Contains (cond b (z ∷ filter p xs) (filter p xs)) x
    kept true c = (suc c.0, let m = c.1 in omega arith, c.2)
    kept false c = c

pub from_filter : {X : Type 0} (p : X → Bool) (xs : List X) (x : X) → Contains (filter p xs) x
    → Contains xs x × (p x ≡ true)
from_filter p [] x h = let l = h.1 in absurd (omega arith)
from_filter p (z ∷ xs) x h = by_value (p z) refl (from_filter p xs x) h
  where
    past : Contains xs x × (p x ≡ true) → Contains (z ∷ xs) x × (p x ≡ true)
    past r =
        let there = r.0 in
        ((suc there.0, let m = there.1 in omega arith, there.2), r.1)

    by_value : (b : Bool) → p z ≡ b → (Contains (filter p xs) x → Contains xs x × (p x ≡ true))
        → Contains (cond b (z ∷ filter p xs) (filter p xs)) x → Contains (z ∷ xs) x × (p x ≡ true)
    by_value true q rest (zero, l, is) = ((0, omega arith, is), sym (ap p is) ∙ q)
    by_value true q rest (suc k, l, is) = past (rest (k, omega (arith, l), is))
    by_value false q rest c = past (rest c)

pub short_filter : {X : Type 0} (p : X → Bool) (xs : List X) → length (filter p xs) ≤ length xs
short_filter p [] = omega arith
short_filter p (z ∷ xs) = by_value (p z) (short_filter p xs)
  where
    by_value : (b : Bool) → length (filter p xs) ≤ length xs
        → length (cond b (z ∷ filter p xs) (filter p xs)) ≤ length (z ∷ xs)
    by_value true h = omega (arith, h)
    by_value false h = omega (arith, h)

-- ---- pairs of joined lists
place_in : {X : Type 0} (xs ys : List X) (k : ℕ) (d : X) → k < length (xs ++ ys)
    → Contains xs (get_or (xs ++ ys) k d) ⊎ Contains ys (get_or (xs ++ ys) k d)
place_in xs ys k d l = split xs ys (get_or (xs ++ ys) k d) (at_place (xs ++ ys) k d l)

pub pairs_append : {X : Type 0} (R : X → X → Type 0) (xs ys : List X) → AllPairs R xs → AllPairs R ys
    → ((x y : X) → Contains xs x → Contains ys y → R x y) → AllPairs R (xs ++ ys)
pairs_append R [] ys h k c i j d b l = k i j d b l
pairs_append R (x ∷ xs) ys h k c i zero d b l = absurd (omega (arith, b))
pairs_append R (x ∷ xs) ys h k c zero (suc j) d b l = elim (place_in xs ys j d (omega (arith, l))) [
  | inl there ↦
      let m = there.1 in
      subst (R x) there.2 (h 0 (suc there.0) (get_or (xs ++ ys) j d) (omega arith) (omega arith))
  | inr there ↦ c x (get_or (xs ++ ys) j d) (0, omega arith, refl) there
]
pairs_append R (x ∷ xs) ys h k c (suc i) (suc j) d b l =
    pairs_append R xs ys (λ a e z m n. h (suc a) (suc e) z (omega (arith, m)) (omega (arith, n))) k
    (λ y z u v. c y z (suc u.0, let m = u.1 in omega arith, u.2) v)
    i j d (omega (arith, b)) (omega (arith, l))

pub pairs_flat : {Y : Type 0} (R : Y → Y → Type 0) (f : ℕ → List Y) (a n : ℕ) → ((k : ℕ) → AllPairs R (f k))
    → ((k l : ℕ) (x y : Y) → k < l → Contains (f k) x → Contains (f l) y → R x y)
    → AllPairs R (flat_map f (range_with_len a n))
pairs_flat R f a zero h c = λ i j d b l. absurd (omega (arith, l))
pairs_flat R f a (suc n) h c =
    pairs_append R (f a) (flat_map f (range_with_len (a + 1) n)) (h a) (pairs_flat R f (a + 1) n h c)
    (λ x y here there.
    let s = from_flat f (range_with_len (a + 1) n) y there in
    let long = length-range_with_len (a + 1) n in
    let within : s.place < n = let w = s.within in omega arith in
    let place = get_or-range_with_len (a + 1) n s.place 0 within in
    c a (get_or (range_with_len (a + 1) n) s.place 0) x y (omega arith) here (s.here 0))
