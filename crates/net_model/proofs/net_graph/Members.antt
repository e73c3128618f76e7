-- Elements of a list of numbers, and their places.
use Rattle.std.proofs.Common.{◌≡◌, ℕ, ◌<◌, ◌≤◌, ◌-◌, List, [], ◌∷◌, ◌++◌, length, get_or, take, refl, sym, ◌∙◌, arith, Bool, true, false, ◌⊎◌, inl, inr, nat_eq, get_or-take, length-append}
use Rattle.std.specs.Prelude.{Contains, All, Some, slice_get}
use Rattle.std.proofs.Common.{subst}
use Rattle.std.proofs.lemmas.Option.{slice_get_within, get_or_from_slice_get}
use Rattle.std.specs.List.{list_any}
use Rattle.std.proofs.lemmas.List.{get_or_default, length-take-le, get_or_at, get_or_append_left}
use Rattle.std.proofs.lemmas.Bool.{cases_lt}
use Rattle.std.proofs.lemmas.Map.Views.{Contains-from_any, list_any-from_Contains}
use Rattle.std.proofs.lemmas.Cmp.{nat_eq_equiv}
use Rattle.std.proofs.Common.{eqb-true}

pub at_place : (xs : List ℕ) (k x : ℕ) → k < length xs → get_or xs k 0 ≡ x → Contains xs x
at_place xs k x h e = (k, h, get_or_default xs k x 0 h ∙ e)

-- where an element stands
pub record Stands (xs : List ℕ) (x : ℕ) : Type 0 where
  pub place : ℕ
  pub within : place < length xs
  pub is : get_or xs place 0 ≡ x

pub place_of : (xs : List ℕ) (x : ℕ) → Contains xs x → Stands xs x
place_of xs x c = record { place = c.0; within = c.1; is = get_or_default xs c.0 0 x c.1 ∙ c.2 }

pub is_member : (xs : List ℕ) (x : ℕ) → list_any (nat_eq x) xs ≡ true → Contains xs x
is_member xs x h = Contains-from_any eqb-true x xs h

pub no_member : (xs : List ℕ) (x : ℕ) → ¬ (Contains xs x) → list_any (nat_eq x) xs ≡ false
no_member xs x h = false_of (list_any (nat_eq x) xs) (λ t. h (is_member xs x t))
  where
    false_of : (b : Bool) → ¬ (b ≡ true) → b ≡ false
    false_of true h = absurd (h refl)
    false_of false h = refl

pub none_of : (xs : List ℕ) (x : ℕ) → list_any (nat_eq x) xs ≡ false → ¬ (Contains xs x)
none_of xs x h c = let e : true ≡ false = sym (list_any-from_Contains nat_eq_equiv x xs c) ∙ h in absurd cc

-- an element of a list, or not
pub member : (xs : List ℕ) (x : ℕ) → Contains xs x ⊎ ¬ (Contains xs x)
member xs x = cases (list_any (nat_eq x) xs) refl
  where
    cases : (b : Bool) → list_any (nat_eq x) xs ≡ b → Contains xs x ⊎ ¬ (Contains xs x)
    cases true h = inl (is_member xs x h)
    cases false h = inr (none_of xs x h)

-- ---- lists that grow
pub kept_left : {X : Type 0} (xs ys : List X) (x : X) → Contains xs x → Contains (xs ++ ys) x
kept_left xs ys x c =
    let count = length-append xs ys in
    (c.0, omega (arith, c.1, count), get_or_append_left xs ys x c.0 c.1 ∙ c.2)

pub kept_last : {X : Type 0} (xs : List X) (x : X) → Contains (xs ++ x ∷ []) x
kept_last xs x =
    let count = length-append xs (x ∷ []) in
    (length xs, omega (arith, count), get_or_at xs x [] x (length xs) refl)

pub pushed : {X : Type 0} (xs : List X) (x y : X) → Contains (xs ++ x ∷ []) y → Contains xs y ⊎ (y ≡ x)
pushed xs x y c =
    elim (cases_lt c.0 (length xs)) [
      | inl l ↦ inl (c.0, l, sym (get_or_append_left xs (x ∷ []) y c.0 l) ∙ c.2)
      | inr l ↦
          let count = length-append xs (x ∷ []) in
          let last : length xs ≡ c.0 = omega (arith, l, c.1, count) in
          inr (sym c.2 ∙ get_or_at xs x [] y c.0 last)
    ]

-- an element before a place, by its own place
pub before_place : (xs : List ℕ) (i k x : ℕ) → i < k → k ≤ length xs → get_or xs i 0 ≡ x → Contains (take k xs) x
before_place xs i k x early h is =
    let within : i < length (take k xs) = rw (length-take-le k xs h) early in
    at_place (take k xs) i x within (get_or-take k xs i 0 early ∙ is)

pub of_front : (xs : List ℕ) (k x : ℕ) → k ≤ length xs → (c : Contains (take k xs) x) → (i : ℕ) × (i < k) × (get_or xs i 0 ≡ x)
of_front xs k x h c =
    let s = place_of (take k xs) x c in
    let early : s.place < k = omega (arith, s.within, length-take-le k xs h) in
    (s.place, early, sym (get_or-take k xs s.place 0 early) ∙ s.is)

pub all_contains : (P : ℕ → Type 0) (xs : List ℕ) (x : ℕ) → All P xs → Contains xs x → P x
all_contains P xs x a c = let s = place_of xs x c in subst P s.is (a s.place 0 s.within)

pub last_member : (xs : List ℕ) (x : ℕ) → slice_get xs (length xs - 1) ≡ Some x → Contains xs x
last_member xs x is = at_place xs (length xs - 1) x (slice_get_within xs (length xs - 1) x is) (get_or_from_slice_get xs (length xs - 1) x 0 is)
