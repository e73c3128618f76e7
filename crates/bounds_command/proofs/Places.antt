-- Where members stand in lists.
use Rattle.std.proofs.Common.{◌≡◌, ◌⊎◌, ℕ, zero, suc, ◌<◌, ◌≤◌, Some, None, List, [], ◌∷◌, ◌++◌, length, map, refl, arith, inl, inr}
use Rattle.std.specs.Prelude.{slice_get}
use Rattle.std.specs.List.{flat_map, range_with_len}
use Rattle.std.proofs.lemmas.List.FromFn.{length-range_with_len, get_or-range_with_len}
use Rattle.std.proofs.lemmas.Option.{slice_get_within, get_or_from_slice_get}

pub past : {X : Type 0} (xs : List X) (i : ℕ) → slice_get xs i ≡ None → length xs ≤ i
past [] i e = omega arith
past (x ∷ xs) zero e = absurd (cc)
past (x ∷ xs) (suc i) e = let h = past xs i e in omega (arith, h)

pub in_append : {A : Type 0} (xs ys : List A) (k : ℕ) (y : A) → slice_get (xs ++ ys) k ≡ Some y
    → ((j : ℕ) × (slice_get xs j ≡ Some y)) ⊎ ((j : ℕ) × (slice_get ys j ≡ Some y))
in_append [] ys k y e = inr (k, e)
in_append (x ∷ xs) ys zero y e = inl (0, e)
in_append (x ∷ xs) ys (suc k) y e =
    elim (in_append xs ys k y e) [ inl h ↦ inl (suc h.0, h.1) | inr h ↦ inr h ]

pub record InFlat {X A : Type 0} (f : X → List A) (xs : List X) (y : A) : Type 0 where
  pub at : ℕ
  pub of : X
  pub there : slice_get xs at ≡ Some of
  pub place : ℕ
  pub is : slice_get (f of) place ≡ Some y

pub in_flat : {X A : Type 0} (f : X → List A) (xs : List X) (k : ℕ) (y : A) → slice_get (flat_map f xs) k ≡ Some y
    → InFlat f xs y
in_flat f [] k y e = absurd (cc)
in_flat f (x ∷ xs) k y e =
    elim (in_append (f x) (flat_map f xs) k y e) [
      | inl h ↦ record { at = 0; of = x; there = refl; place = h.0; is = h.1 }
      | inr h ↦
          let r = in_flat f xs h.0 y h.1 in
          record { at = suc r.at; of = r.of; there = r.there; place = r.place; is = r.is }
    ]

pub record InMap {X Y : Type 0} (f : X → Y) (xs : List X) (k : ℕ) (y : Y) : Type 0 where
  pub of : X
  pub there : slice_get xs k ≡ Some of
  pub is : f of ≡ y

pub in_map : {X Y : Type 0} (f : X → Y) (xs : List X) (k : ℕ) (y : Y) → slice_get (map f xs) k ≡ Some y → InMap f xs k y
in_map f [] k y e = absurd (cc)
in_map f (x ∷ xs) zero y e = record { of = x; there = refl; is = cc }
in_map f (x ∷ xs) (suc k) y e =
    let r = in_map f xs k y e in record { of = r.of; there = r.there; is = r.is }

pub in_range : (n i s : ℕ) → slice_get (range_with_len 0 n) i ≡ Some s → s < n
in_range n i s e =
    let long = length-range_with_len 0 n in
    let within = slice_get_within (range_with_len 0 n) i s e in
    let inside : i < n = omega (arith, long, within) in
    let is = get_or_from_slice_get (range_with_len 0 n) i s 0 e in
    let value = get_or-range_with_len 0 n i 0 inside in
    omega (arith, inside, is, value)
