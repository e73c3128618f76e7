-- Files that are asked for one after another, up to one that is not had.
use Rattle.std.specs.Prelude.{◌≡◌, ◌≤◌, ◌+◌, ◌⊎◌, ◌++◌, ℕ, List, length, take}
use Rattle.outside.specs.Faults.{Rose}
use Rattle.outside.specs.Files.{Told, IsTooLong}

-- ---- asked for
-- These names were asked for, in their order, and no other.
abbrev pub AsksForAll : {I : Type 0} → (asked : I → List (List ℕ)) → (names : List (List ℕ)) → (old new : I) → Type 0
AsksForAll asked names old new = asked new ≡ asked old ++ names

-- A front of them was, and no other.
pub record AsksInOrder {I : Type 0} (asked : I → List (List ℕ)) (names : List (List ℕ)) (old new : I) : Type 0 where
  pub count : ℕ
  pub few : count ≤ length names
  pub are : AsksForAll asked (take count names) old new

-- ---- asked for and had
-- These files were asked for and had, in their order, and no other was asked for.
pub record FetchesAll {I : Type 0} (asked had : I → List (List ℕ)) (names : List (List ℕ)) (old new : I) : Type 0 where
  pub asked_for : asked new ≡ asked old ++ names
  pub had_all : had new ≡ had old ++ names

-- A front of them was asked for, in their order, and no other; all of these were had, or all but the last. So nothing
-- is asked for behind a file that is not had.
pub record FetchesUpTo {I : Type 0} (asked had : I → List (List ℕ)) (names : List (List ℕ)) (old new : I) : Type 0 where
  pub tried : ℕ
  pub taken : ℕ
  pub few : tried ≤ length names
  pub in_turn : (taken ≤ tried) × (tried ≤ taken + 1)
  pub asked_for : asked new ≡ asked old ++ take tried names
  pub had_first : had new ≡ had old ++ take taken names

-- ---- not had
-- The inputs failed in this call, and last at this file.
pub record FailedAt {I : Type 0} (faults : I → ℕ) (last_fault : I → List ℕ) (file : List ℕ) (old new : I)
    : Type 0 where
  pub rose : Rose (faults old) (faults new)
  pub name : last_fault new ≡ file

-- The inputs end a call at this file, by a reply that tells it: they failed at it, or it is too long.
abbrev pub EndsAt : {I R : Type 0} → (most : ℕ) → (cannot_read too_long : List ℕ → R) → (I → ℕ) → (I → List ℕ) → Told → I
    → I → R → List ℕ → Type 0
EndsAt most cannot_read too_long faults last_fault told old new reply file =
    (FailedAt faults last_fault file old new × (reply ≡ cannot_read file))
    ⊎ (IsTooLong most (told file) × (reply ≡ too_long file))
