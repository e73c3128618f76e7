-- How fetching ends where a file is not had, and a reply that tells it.
use Rattle.std.specs.Prelude.{◌≡◌, ◌+◌, ℕ, List, take, slice_get, Some}
use Rattle.outside.specs.Files.{Told, IsTooLong, FirstIs}
use Rattle.outside.specs.Fetching.{AsksForAll, FailedAt}
use Rattle.replies.specs.declared.fetching.Unread.{Unread}
use Rattle.replies.specs.declared.fetching.Unread.TheVariants.{Failed, TooLong, NoMemory}

-- ---- asked for
-- A call asks for these names, in their order, and for no other.
abbrev pub asks_of : {I : Type 0} → (I → List (List ℕ)) → I → I → List (List ℕ) → Type 0
asks_of asked old new names = AsksForAll asked names old new

-- It asks for the names up to this file, and for none behind it.
pub record AsksUpTo (asks : List (List ℕ) → Type 0) (names : List (List ℕ)) (file : List ℕ) : Type 0 where
  pub place : ℕ
  pub last : slice_get names place ≡ Some file
  pub are : asks (take (place + 1) names)

-- ---- where fetching ends
-- It ended at this file, which is the one that is told: the inputs failed at it, or it is too long.
abbrev pub EndsAt : {I : Type 0} → (most : ℕ) → (I → ℕ) → (I → List ℕ) → Told → (old new : I) → Unread → List ℕ → Type 0
EndsAt most faults last_fault told old new (Failed name) file =
    (name.now ≡ file) × FailedAt faults last_fault file old new
EndsAt most faults last_fault told old new (TooLong name) file = (name.now ≡ file) × IsTooLong most (told file)
EndsAt most faults last_fault told old new NoMemory file = Unit {0}

-- It ended at one of these files, those before which may fit, and asked for none behind it; or memory was refused.
abbrev pub EndsIn : {I : Type 0} → (most : ℕ) → (I → ℕ) → (I → List ℕ) → Told → (asks : List (List ℕ) → Type 0) → (old new : I)
    → Unread → List (List ℕ) → Type 0
EndsIn most faults last_fault told asks old new NoMemory names = Unit {0}
EndsIn most faults last_fault told asks old new unread names =
    FirstIs most told (λ file. EndsAt most faults last_fault told old new unread file × AsksUpTo asks names file) names

-- ---- the reply on it
-- This reply tells why the files were not had. None tells that memory was refused.
abbrev pub Tells : {R : Type 0} → (cannot_read too_long : List ℕ → R) → Unread → R → Type 0
Tells cannot_read too_long (Failed name) reply = reply ≡ cannot_read name.now
Tells cannot_read too_long (TooLong name) reply = reply ≡ too_long name.now
Tells cannot_read too_long NoMemory reply = ⊥
