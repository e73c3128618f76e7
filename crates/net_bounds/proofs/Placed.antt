-- The place of a number in a list that has each number once.
use Rattle.std.specs.Prelude.{◌≡◌, ◌≢◌, ℕ, zero, suc, ◌<◌, ◌==◌, List, [], ◌∷◌, length, if◌then◌else◌, AllPairs}
use Rattle.std.proofs.Common.{arith, sym, ap, refl, inl, inr, get_or}
use Rattle.std.proofs.lemmas.Bool.{cases_eq, eq-eqb, ne_eqb}
use Rattle.net_cells.proofs.Lists.{Apart}
use Rattle.run_laws.proofs.Members.{Has, at_has, has_contains}

abbrev pub place_in : ℕ → List ℕ → ℕ
place_in s [] = 0
place_in s (x ∷ xs) = if x == s then 0 else suc (place_in s xs)

-- a number that is there stands at its place
pub record StandsAt (s : ℕ) (xs : List ℕ) : Type 0 where
  pub within : place_in s xs < length xs
  pub is : get_or xs (place_in s xs) 0 ≡ s

pub placed : (s : ℕ) (xs : List ℕ) → Has xs s → StandsAt s xs
placed s [] h = absurd h
placed s (x ∷ xs) h = elim (cases_eq x s) [
  | inl e ↦
      let here : place_in s (x ∷ xs) ≡ 0 = rw (eq-eqb x s e) refl in
      record { within = rw here (omega arith); is = rw here e }
  | inr n ↦
      let later : place_in s (x ∷ xs) ≡ suc (place_in s xs) = rw (ne_eqb x s n) refl in
      let rest = placed s xs (elim h [ inl e ↦ absurd (n e) | inr m ↦ m ]) in
      let within = rest.within in
      record { within = rw later (omega arith); is = rw later rest.is }
]

pub apart_from : (xs : List ℕ) → AllPairs (λ s t. s ≢ t) xs → Apart xs
apart_from [] h = tt
apart_from (x ∷ xs) h = (
  λ m. let c = has_contains xs x m in h 0 (suc c.0) x (omega arith) (omega (arith, c.1)) (sym c.2),
  apart_from xs (λ i j d a b. h (suc i) (suc j) d (omega (arith, a)) (omega (arith, b))),
)

pub place_of_at : (xs : List ℕ) (k : ℕ) → Apart xs → k < length xs → place_in (get_or xs k 0) xs ≡ k
place_of_at [] k a h = absurd (omega (arith, h))
place_of_at (x ∷ xs) zero a h = rw (eq-eqb x x refl) refl
place_of_at (x ∷ xs) (suc k) a h =
    let rest = place_of_at xs k a.1 (omega (arith, h)) in
    let differs : x ≢ get_or xs k 0 = λ e. a.0 (at_has xs k 0 x (omega (arith, h)) (sym e)) in
    rw (ne_eqb x (get_or xs k 0) differs) (ap suc rest)
