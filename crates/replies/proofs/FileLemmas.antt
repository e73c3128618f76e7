-- Files in their order, and what is told of them.
use Rattle.std.proofs.Common.{◌≡◌, ◌<◌, ◌+◌, ◌⊎◌, ℕ, List, [], ◌∷◌, length, Option, Some, None, IfSome}
use Rattle.std.proofs.Common.{inl, inr, refl, sym, ap₂, subst, arith}
use Rattle.std.proofs.Math.ListN.{replicate}
use Rattle.std.proofs.lemmas.List.{length-replicate}
use Rattle.outside.specs.Files.{Told, MayHold, IsTooLong, FirstIs, MayHoldAll, FirstLong}
use Rattle.outside.specs.Files.{AllFit, joined, all_told}

-- ---- one file
-- a list of any length
of_length : (n : ℕ) → (bytes : List ℕ) × (length bytes ≡ n)
of_length n = (replicate n 0, length-replicate n 0)

-- Where a file is longer than a file may be, as far as it is told, there are bytes that it may hold.
pub longer_found : (most : ℕ) (told : Option (List ℕ)) → IfSome told (λ bytes. most < length bytes) → IsTooLong most told
longer_found most (Some bytes) longer = record { bytes = bytes; held = refl; longer = longer }
longer_found most None longer =
    let some = of_length (most + 1) in
    let past : most < length some.0 = omega (arith, some.1) in
    record { bytes = some.0; held = tt; longer = past }

-- what was read is what the file is told to hold
pub held_by : (told : Option (List ℕ)) (bytes : List ℕ) → IfSome told (λ held. bytes ≡ held) → MayHold told bytes
held_by (Some held) bytes same = sym same
held_by None bytes same = tt

some_held : (told : Option (List ℕ)) → (bytes : List ℕ) × MayHold told bytes
some_held (Some held) = (held, refl)
some_held None = ([], tt)

-- ---- all files
all_held : (told : Told) (names : List (List ℕ)) → (files : List (List ℕ)) × MayHoldAll told names files
all_held told [] = ([], tt)
all_held told (name ∷ names) =
    let here = some_held (told name) in
    let later = all_held told names in
    (here.0 ∷ later.0, (here.1, later.1))

-- what holds of each, or of each to which P applies
pub first_map : (most : ℕ) (told : Told) (P Q : List ℕ → Type 0) (names : List (List ℕ)) → ((file : List ℕ) → P file → Q file)
    → FirstIs most told P names → FirstIs most told Q names
first_map most told P Q [] step h = h
first_map most told P Q (name ∷ names) step (inl h) = inl (step name h)
first_map most told P Q (name ∷ names) step (inr h) = inr (h.0, first_map most told P Q names step h.1)

-- a fact that the first of them shows
pub first_shows : (most : ℕ) (told : Told) (P : List ℕ → Type 0) (C : Type 0) (names : List (List ℕ))
    → ((file : List ℕ) → P file → C) → FirstIs most told P names → C
first_shows most told P C [] step h = absurd h
first_shows most told P C (name ∷ names) step (inl h) = step name h
first_shows most told P C (name ∷ names) step (inr h) = first_shows most told P C names step h.1

pub long_shows : (most : ℕ) (P : List ℕ → Type 0) (C : Type 0) (names files : List (List ℕ)) → ((file : List ℕ) → P file → C)
    → FirstLong most P names files → C
long_shows most P C [] files step h = absurd h
long_shows most P C (name ∷ names) [] step h = absurd h
long_shows most P C (name ∷ names) (bytes ∷ files) step (inl h) = step name h.1
long_shows most P C (name ∷ names) (bytes ∷ files) step (inr h) = long_shows most P C names files step h.1

-- the first of the bytes that are too long are those of the first file that may be
pub long_first : (most : ℕ) (told : Told) (P : List ℕ → Type 0) (names files : List (List ℕ)) → MayHoldAll told names files
    → FirstLong most P names files → FirstIs most told (λ file. IsTooLong most (told file) × P file) names
long_first most told P [] files held h = absurd h
long_first most told P (name ∷ names) [] held h = absurd h
long_first most told P (name ∷ names) (bytes ∷ files) held (inl h) =
    inl (record { bytes = bytes; held = held.0; longer = h.0 }, h.1)
long_first most told P (name ∷ names) (bytes ∷ files) held (inr h) =
    inr (record { bytes = bytes; held = held.0; fits = h.0 }, long_first most told P names files held.1 h.1)

pub not_long : (most : ℕ) (P : List ℕ → Type 0) (names files : List (List ℕ)) → FirstLong most P names files → AllFit most files → ⊥
not_long most P [] files h fit = h
not_long most P (name ∷ names) [] h fit = h
not_long most P (name ∷ names) (bytes ∷ files) (inl h) fit = absurd (omega (arith, h.0, fit.0))
not_long most P (name ∷ names) (bytes ∷ files) (inr h) fit = not_long most P names files h.1 fit.1

-- there is one file that is the first
pub long_one : {A : Type 0} (most : ℕ) (x y : A) (f : List ℕ → A) (names files : List (List ℕ))
    → FirstLong most (λ file. x ≡ f file) names files → FirstLong most (λ file. y ≡ f file) names files → x ≡ y
long_one most x y f [] files h k = absurd h
long_one most x y f (name ∷ names) [] h k = absurd h
long_one most x y f (name ∷ names) (bytes ∷ files) (inl h) (inl k) = cc (h.1, k.1)
long_one most x y f (name ∷ names) (bytes ∷ files) (inl h) (inr k) = absurd (omega (arith, h.0, k.0))
long_one most x y f (name ∷ names) (bytes ∷ files) (inr h) (inl k) = absurd (omega (arith, h.0, k.0))
long_one most x y f (name ∷ names) (bytes ∷ files) (inr h) (inr k) = long_one most x y f names files h.1 k.1

-- Fetching ended at a file: it failed there, or the file is too long.
pub ended : (most : ℕ) (told : Told) (P Q : List ℕ → Type 0) (names : List (List ℕ))
    → FirstIs most told (λ file. P file ⊎ (IsTooLong most (told file) × Q file)) names
    → FirstIs most told P names ⊎ ((files : List (List ℕ)) × MayHoldAll told names files × FirstLong most Q names files)
ended most told P Q [] h = absurd h
ended most told P Q (name ∷ names) (inl (inl h)) = inl (inl h)
ended most told P Q (name ∷ names) (inl (inr h)) =
    let later = all_held told names in
    inr (h.0.bytes ∷ later.0, (h.0.held, later.1), inl (h.0.longer, h.1))
ended most told P Q (name ∷ names) (inr h) =
    elim (ended most told P Q names h.1) [
      | inl first ↦ inl (inr (h.0, first))
      | inr long ↦ inr (h.0.bytes ∷ long.0, (h.0.held, long.1), inr (h.0.fits, long.2))
    ]

-- ---- what is told of all
same_joined : (one : Option (List ℕ)) (rest : Option (List (List ℕ))) (bytes : List ℕ) (files : List (List ℕ))
    → MayHold one bytes → IfSome rest (λ held. held ≡ files) → IfSome (joined one rest) (λ held. held ≡ bytes ∷ files)
same_joined (Some here) (Some later) bytes files h k = ap₂ (λ x xs. x ∷ xs) h k
same_joined (Some here) None bytes files h k = tt
same_joined None rest bytes files h k = tt

pub same_told : (told : Told) (names files : List (List ℕ)) → MayHoldAll told names files
    → IfSome (all_told told names) (λ held. held ≡ files)
same_told told [] [] h = refl
same_told told [] (bytes ∷ files) h = absurd h
same_told told (name ∷ names) [] h = absurd h
same_told told (name ∷ names) (bytes ∷ files) h =
    same_joined (told name) (all_told told names) bytes files h.0 (same_told told names files h.1)

-- what holds of the files that are there holds of those that are told
pub on_told : {A : Type 0} (told : Option A) (there : A) (P : A → Type 0) → IfSome told (λ held. held ≡ there)
    → P there → IfSome told P
on_told None there P same h = tt
on_told (Some held) there P same h = subst P (sym same) h

pub any_told : {A : Type 0} (told : Option A) (P : A → Type 0) → ((held : A) → P held) → IfSome told P
any_told None P h = tt
any_told (Some held) P h = h held
