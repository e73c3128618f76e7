-- Lists of numbers none of which stands twice.
use Rattle.std.proofs.Common.{◌≡◌, ℕ, ◌<◌, ◌≤◌, Bool, true, false, List, [], ◌∷◌, ◌++◌, length, get_or, refl, sym, ◌∙◌, subst, arith, inl, inr, ◌⊎◌, length-append, nat_eq}
use Rattle.std.specs.List.{Contains, list_any}
use Rattle.std.proofs.lemmas.Bool.{cases_lt}
use Rattle.std.proofs.lemmas.Bool.Decides.{Decides-eqb}
use Rattle.std.proofs.lemmas.List.{get_or_append_left, get_or_at, get_or_default}
use Rattle.std.proofs.lemmas.Map.Made.{IsDistinct-from_AllPairs}
use Rattle.std.proofs.lemmas.Map.Steps.{length-le_from_distinct_below, le-length_from_below}
use Rattle.std.proofs.lemmas.Map.Views.{Contains-from_any, list_any-from_Contains}
use Rattle.std.proofs.lemmas.Cmp.{nat_eq_equiv}
use Rattle.std.proofs.Common.{eqb-true}
use Rattle.tree_network.specs.Orders.{StandsAt}

-- none of the list is x
abbrev pub IsNew : List ℕ → ℕ → Type 0
IsNew xs x = (i : ℕ) → i < length xs → get_or xs i 0 ≡ x → ⊥

pub record Apart (xs : List ℕ) : Type 0 where
  pub once : (i j : ℕ) → i < j → j < length xs → get_or xs i 0 ≡ get_or xs j 0 → ⊥

-- ---- one more
pub data Pushed (xs : List ℕ) (x k : ℕ) : Type 0 where
  earlier : k < length xs → get_or (xs ++ x ∷ []) k 0 ≡ get_or xs k 0 → Pushed xs x k
  newest : k ≡ length xs → get_or (xs ++ x ∷ []) k 0 ≡ x → Pushed xs x k

pub pushed : (xs : List ℕ) (x k : ℕ) → k < length (xs ++ x ∷ []) → Pushed xs x k
pushed xs x k h =
    elim (cases_lt k (length xs)) [
      | inl l ↦ earlier l (get_or_append_left xs (x ∷ []) 0 k l)
      | inr l ↦
          let count = length-append xs (x ∷ []) in
          let last : length xs ≡ k = omega (arith, l, h, count) in
          newest (sym last) (get_or_at xs x [] 0 k last)
    ]

pub apart_push : (xs : List ℕ) (x : ℕ) → Apart xs → IsNew xs x → Apart (xs ++ x ∷ [])
apart_push xs x a new = record { once = λ i j early h same. cases i j early h same (pushed xs x j h) }
  where
    cases : (i j : ℕ) → i < j → j < length (xs ++ x ∷ []) → get_or (xs ++ x ∷ []) i 0 ≡ get_or (xs ++ x ∷ []) j 0 → Pushed xs x j → ⊥
    cases i j early h same (earlier l e) = a.once i j early l (sym (get_or_append_left xs (x ∷ []) 0 i (omega arith)) ∙ same ∙ e)
    cases i j early h same (newest l e) =
        let within : i < length xs = omega arith in
        new i within (sym (get_or_append_left xs (x ∷ []) 0 i within) ∙ same ∙ e)

pub stands_push : (xs : List ℕ) (x s i : ℕ) → StandsAt xs s i → StandsAt (xs ++ x ∷ []) s i
stands_push xs x s i st =
    let count = length-append xs (x ∷ []) in
    record { inside = omega (arith, count, st.inside); is = get_or_append_left xs (x ∷ []) 0 i st.inside ∙ st.is }

pub stands_last : (xs : List ℕ) (x : ℕ) → StandsAt (xs ++ x ∷ []) x (length xs)
stands_last xs x =
    let count = length-append xs (x ∷ []) in
    record { inside = omega (arith, count); is = get_or_at xs x [] 0 (length xs) refl }

-- ---- in number
pub few : (xs : List ℕ) (n : ℕ) → Apart xs → ((i : ℕ) → i < length xs → get_or xs i 0 < n) → length xs ≤ n
few xs n a small =
    length-le_from_distinct_below xs n
    (IsDistinct-from_AllPairs Decides-eqb xs
    (λ i j d early h same. a.once i j early h (get_or_default xs i 0 d (omega (arith, early, h)) ∙ same ∙ get_or_default xs j d 0 h)))
    (λ q m. below q (Contains-from_any eqb-true q xs m))
  where
    below : (q : ℕ) → Contains xs q → q < n
    below q c = let P : ℕ → Type 0 = λ m. m < n in subst P (get_or_default xs c.0 0 q c.1 ∙ c.2) (small c.0 c.1)

pub member : (xs : List ℕ) (x : ℕ) → ((i : ℕ) × StandsAt xs x i) ⊎ IsNew xs x
member xs x = cases (list_any (nat_eq x) xs) refl
  where
    cases : (b : Bool) → list_any (nat_eq x) xs ≡ b → ((i : ℕ) × StandsAt xs x i) ⊎ IsNew xs x
    cases true h =
        let c = Contains-from_any eqb-true x xs h in
        inl (c.0, record { inside = c.1; is = get_or_default xs c.0 0 x c.1 ∙ c.2 })
    cases false h =
        inr (λ i lt e. let t : true ≡ false = sym (list_any-from_Contains nat_eq_equiv x xs (i, lt, get_or_default xs i x 0 lt ∙ e)) ∙ h in cc)

pub full : (xs : List ℕ) (n : ℕ) → Apart xs → ((i : ℕ) → i < length xs → get_or xs i 0 < n) → length xs ≡ n → (s : ℕ) → s < n
    → (i : ℕ) × StandsAt xs s i
full xs n a small count s h = elim (member xs s) [ inl st ↦ st | inr new ↦ absurd (none new) ]
  where
    small_push : (i : ℕ) → i < length (xs ++ s ∷ []) → Pushed xs s i → get_or (xs ++ s ∷ []) i 0 < n
    small_push i lt (earlier l e) = let below = small i l in omega (arith, e, below)
    small_push i lt (newest l e) = omega (arith, e, h)

    none : IsNew xs s → ⊥
    none new =
        let more = few (xs ++ s ∷ []) n (apart_push xs s a new) (λ i lt. small_push i lt (pushed xs s i lt)) in
        let long = length-append xs (s ∷ []) in
        omega (arith, more, long, count)

-- a list that has each number below n is as long
pub many : (xs : List ℕ) (n : ℕ) → ((s : ℕ) → s < n → (i : ℕ) × StandsAt xs s i) → n ≤ length xs
many xs n all =
    le-length_from_below xs n
    (λ q h. let st = all q h in
    list_any-from_Contains nat_eq_equiv q xs (st.0, st.1.inside, get_or_default xs st.0 q 0 st.1.inside ∙ st.1.is))
