-- Members of lists, lists without repeats, and what stands before what.
use Rattle.std.proofs.Common.{◌≡◌, ℕ, ◌<◌, ◌≤◌, ◌+◌, zero, suc, List, [], ◌∷◌, ◌++◌, length, get_or, map, refl, sym, ap, ◌∙◌, subst, arith, inl, inr, ◌⊎◌, Bool, true, false, cond, take}
use Rattle.std.specs.Prelude.{AllPairs, ◌≢◌}
use Rattle.std.specs.List.{filter, flat_map, range_with_len}
use Rattle.std.proofs.lemmas.Bool.{cases_lt}
pub use Rattle.run_laws.proofs.Members.{Has, at_has, contains_has, has_contains, has_left, has_right, has_either, has_map, has_flat}

-- none of them is there twice
abbrev pub Apart : {X : Type 0} → List X → Type 0
Apart [] = Unit {0}
Apart (x ∷ xs) = (¬ (Has xs x)) × Apart xs

-- x is one of them, and y a later one
abbrev pub Before : {X : Type 0} → X → X → List X → Type 0
Before x y [] = ⊥
Before x y (z ∷ zs) = ((z ≡ x) × Has zs y) ⊎ Before x y zs

-- what stands before an element that is not repeated is another one
pub apart_middle : {X : Type 0} (front : List X) (x : X) (back : List X) → Apart (front ++ x ∷ back) → ¬ (Has front x)
apart_middle [] x back a h = h
apart_middle (y ∷ front) x back a (inl e) = a.0 (has_right front (x ∷ back) y (inl (sym e)))
apart_middle (y ∷ front) x back a (inr h) = apart_middle front x back a.1 h

-- ---- by places
pub apart_pairs : {X : Type 0} (xs : List X) → Apart xs → AllPairs (λ x y. x ≢ y) xs
apart_pairs [] a i j d h k = absurd (omega (arith, k))
apart_pairs (x ∷ xs) a i zero d h k = absurd (omega (arith, h))
apart_pairs (x ∷ xs) a zero (suc j) d h k = λ e. a.0 (at_has xs j d x (omega (arith, k)) (sym e))
apart_pairs (x ∷ xs) a (suc i) (suc j) d h k = apart_pairs xs a.1 i j d (omega (arith, h)) (omega (arith, k))

-- ---- joined
pub apart_joined : {X : Type 0} (xs ys : List X) → Apart xs → Apart ys → ((x : X) → Has xs x → ¬ (Has ys x))
    → Apart (xs ++ ys)
apart_joined [] ys a b never = b
apart_joined (x ∷ xs) ys a b never = (
  λ h. elim (has_either xs ys x h) [ inl l ↦ a.0 l | inr r ↦ never x (inl refl) r ],
  apart_joined xs ys a.1 b (λ z h. never z (inr h)),
)

-- ---- mapped
pub map_has : {X Y : Type 0} (f : X → Y) (xs : List X) (y : Y) → Has (map f xs) y → (x : X) × Has xs x × (f x ≡ y)
map_has f [] y h = absurd h
map_has f (z ∷ zs) y (inl e) = (z, inl refl, e)
map_has f (z ∷ zs) y (inr h) = let found = map_has f zs y h in (found.0, inr found.1, found.2)

pub apart_map : {X Y : Type 0} (f : X → Y) (xs : List X) → ((x y : X) → f x ≡ f y → x ≡ y) → Apart xs → Apart (map f xs)
apart_map f [] one a = tt
apart_map f (x ∷ xs) one a = (
  λ h. let found = map_has f xs (f x) h in
      a.0 (subst (Has xs) (one found.0 x found.2) found.1),
  apart_map f xs one a.1,
)

pub apart_back : {X Y : Type 0} (f : X → Y) (xs : List X) → Apart (map f xs) → Apart xs
apart_back f [] a = tt
apart_back f (x ∷ xs) a = (λ h. a.0 (has_map f xs x h), apart_back f xs a.1)

-- ---- filtered
pub has_filter : {X : Type 0} (p : X → Bool) (xs : List X) (x : X) → Has xs x → p x ≡ true → Has (filter p xs) x
has_filter {X} p [] x h t = absurd h
has_filter {X} p (y ∷ ys) x h t = here (p y) refl (λ l. has_filter p ys x l t) h
  where
    here : (b : Bool) → p y ≡ b → (Has ys x → Has (filter p ys) x) → Has (y ∷ ys) x
        → Has (cond b (y ∷ filter p ys) (filter p ys)) x
    here true e rest (inl same) = inl same
    here true e rest (inr later) = inr (rest later)
    here false e rest (inl same) = let bad : true ≡ false = sym t ∙ ap p (sym same) ∙ e in absurd cc
    here false e rest (inr later) = rest later

pub filter_has : {X : Type 0} (p : X → Bool) (xs : List X) (x : X) → Has (filter p xs) x → Has xs x × (p x ≡ true)
filter_has {X} p [] x h = absurd h
filter_has {X} p (y ∷ ys) x h = here (p y) refl (filter_has p ys x) h
  where
    here : (b : Bool) → p y ≡ b → (Has (filter p ys) x → Has ys x × (p x ≡ true))
        → Has (cond b (y ∷ filter p ys) (filter p ys)) x → Has (y ∷ ys) x × (p x ≡ true)
    here true e rest (inl same) = (inl same, ap p (sym same) ∙ e)
    here true e rest (inr later) = let found = rest later in (inr found.0, found.1)
    here false e rest later = let found = rest later in (inr found.0, found.1)

pub apart_filter : {X : Type 0} (p : X → Bool) (xs : List X) → Apart xs → Apart (filter p xs)
apart_filter {X} p [] a = tt
apart_filter {X} p (y ∷ ys) a = here (p y) (apart_filter p ys a.1)
  where
    here : (b : Bool) → Apart (filter p ys) → Apart (cond b (y ∷ filter p ys) (filter p ys))
    here true rest = (λ h. a.0 (filter_has p ys y h).0, rest)
    here false rest = rest

-- ---- one list for each element
pub flat_has : {X Y : Type 0} (f : X → List Y) (xs : List X) (y : Y) → Has (flat_map f xs) y
    → (x : X) × Has xs x × Has (f x) y
flat_has f [] y h = absurd h
flat_has f (z ∷ zs) y h =
    elim (has_either (f z) (flat_map f zs) y h) [
      | inl l ↦ (z, inl refl, l)
      | inr r ↦ let found = flat_has f zs y r in (found.0, inr found.1, found.2)
    ]

-- each element is told from what its list has
pub apart_flat : {X Y : Type 0} (f : X → List Y) (key : Y → X) (xs : List X)
    → ((x : X) (y : Y) → Has (f x) y → key y ≡ x)
    → ((x : X) → Apart (f x)) → Apart xs → Apart (flat_map f xs)
apart_flat f key [] tells each a = tt
apart_flat f key (x ∷ xs) tells each a =
    apart_joined (f x) (flat_map f xs) (each x) (apart_flat f key xs tells each a.1)
    (λ y h k. let found = flat_has f xs y k in
    a.0 (subst (Has xs) (sym (tells found.0 y found.2) ∙ tells x y h) found.1))

-- ---- numbers in a row
pub has_range : (a n k : ℕ) → a ≤ k → k < a + n → Has (range_with_len a n) k
has_range a zero k low high = absurd (omega (arith, low, high))
has_range a (suc n) k low high =
    elim (cases_lt a k) [
      | inl l ↦ inr (has_range (a + 1) n k (omega (arith, l)) (omega (arith, high)))
      | inr l ↦ inl (omega (arith, l, low))
    ]

pub range_has : (a n k : ℕ) → Has (range_with_len a n) k → (a ≤ k) × (k < a + n)
range_has a zero k h = absurd h
range_has a (suc n) k (inl e) = (omega (arith, e), omega (arith, e))
range_has a (suc n) k (inr h) = let found = range_has (a + 1) n k h in (omega (arith, found.0), omega (arith, found.1))

pub apart_range : (a n : ℕ) → Apart (range_with_len a n)
apart_range a zero = tt
apart_range a (suc n) = (λ h. omega (arith, (range_has (a + 1) n a h).0), apart_range (a + 1) n)

-- ---- before
pub before_last : {X : Type 0} (x y : X) (xs : List X) → Before x y xs → Has xs y
before_last x y [] h = absurd h
before_last x y (z ∷ zs) (inl h) = inr h.1
before_last x y (z ∷ zs) (inr h) = inr (before_last x y zs h)

pub before_left : {X : Type 0} (x y : X) (xs ys : List X) → Before x y xs → Before x y (xs ++ ys)
before_left x y [] ys h = absurd h
before_left x y (z ∷ zs) ys (inl h) = inl (h.0, has_left zs ys y h.1)
before_left x y (z ∷ zs) ys (inr h) = inr (before_left x y zs ys h)

pub before_right : {X : Type 0} (x y : X) (xs ys : List X) → Before x y ys → Before x y (xs ++ ys)
before_right x y [] ys h = h
before_right x y (z ∷ zs) ys h = inr (before_right x y zs ys h)

pub before_across : {X : Type 0} (x y : X) (xs ys : List X) → Has xs x → Has ys y → Before x y (xs ++ ys)
before_across x y [] ys h k = absurd h
before_across x y (z ∷ zs) ys (inl e) k = inl (e, has_right zs ys y k)
before_across x y (z ∷ zs) ys (inr h) k = inr (before_across x y zs ys h k)

-- in the lists of two elements, or in that of one
pub before_flat : {X Y : Type 0} (f : X → List Y) (a b : X) (x y : Y) (xs : List X) → Before a b xs → Has (f a) x
    → Has (f b) y
    → Before x y (flat_map f xs)
before_flat f a b x y [] h k l = absurd h
before_flat f a b x y (z ∷ zs) (inl h) k l =
    before_across x y (f z) (flat_map f zs) (subst (λ w. Has (f w) x) (sym h.0) k) (has_flat f zs b y h.1 l)
before_flat f a b x y (z ∷ zs) (inr h) k l = before_right x y (f z) (flat_map f zs) (before_flat f a b x y zs h k l)

pub before_inside : {X Y : Type 0} (f : X → List Y) (a : X) (x y : Y) (xs : List X) → Has xs a → Before x y (f a)
    → Before x y (flat_map f xs)
before_inside f a x y [] h k = absurd h
before_inside f a x y (z ∷ zs) (inl e) k =
    before_left x y (f z) (flat_map f zs) (subst (λ w. Before x y (f w)) (sym e) k)
before_inside f a x y (z ∷ zs) (inr h) k = before_right x y (f z) (flat_map f zs) (before_inside f a x y zs h k)

-- by an image that tells elements apart
pub has_back : {X Y : Type 0} (f : X → Y) (x : X) (xs : List X) → ((y z : X) → f y ≡ f z → y ≡ z)
    → Has (map f xs) (f x) → Has xs x
has_back f x xs one h = let found = map_has f xs (f x) h in subst (Has xs) (one found.0 x found.2) found.1

pub before_back : {X Y : Type 0} (f : X → Y) (x y : X) (xs : List X) → ((z w : X) → f z ≡ f w → z ≡ w)
    → Before (f x) (f y) (map f xs) → Before x y xs
before_back f x y [] one h = absurd h
before_back f x y (z ∷ zs) one (inl h) = inl (one z x h.0, has_back f y zs one h.1)
before_back f x y (z ∷ zs) one (inr h) = inr (before_back f x y zs one h)

pub before_range : (a n x y : ℕ) → a ≤ x → x < y → y < a + n → Before x y (range_with_len a n)
before_range a zero x y low h high = absurd (omega (arith, low, h, high))
before_range a (suc n) x y low h high =
    elim (cases_lt a x) [
      | inl l ↦ inr (before_range (a + 1) n x y (omega (arith, l)) h (omega (arith, high)))
      | inr l ↦ inl (omega (arith, l, low), has_range (a + 1) n y (omega (arith, low, h)) (omega (arith, high)))
    ]

-- an element that stands before the one at a place
pub before_place : (xs : List ℕ) (j a b : ℕ) → j < length xs → get_or xs j 0 ≡ b → Has (take j xs) a → Before a b xs
before_place [] j a b h e k = absurd (omega (arith, h))
before_place (x ∷ xs) zero a b h e k = absurd k
before_place (x ∷ xs) (suc j) a b h e (inl same) = inl (same, at_has xs j 0 b (omega (arith, h)) e)
before_place (x ∷ xs) (suc j) a b h e (inr later) = inr (before_place xs j a b (omega (arith, h)) e later)

-- what stands before an element that is not repeated is in the part before it
pub before_split : {X : Type 0} (front : List X) (x y : X) (back : List X) → Apart (front ++ y ∷ back)
    → Before x y (front ++ y ∷ back) → Has front x
before_split [] x y back a (inl h) = absurd (a.0 h.1)
before_split [] x y back a (inr h) = absurd (a.0 (before_last x y back h))
before_split (z ∷ zs) x y back a (inl h) = inl h.0
before_split (z ∷ zs) x y back a (inr h) = inr (before_split zs x y back a.1 h)
