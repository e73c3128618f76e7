-- What files hold, as far as it is told, where each may have so many bytes at most.
use Rattle.std.specs.Prelude.{◌≡◌, ◌≤◌, ◌<◌, ◌⊎◌, ℕ, List, [], ◌∷◌, length, Option, Some, None, IfSome}

-- what is told of each file, by its name
abbrev pub Told : Type 0
Told = List ℕ → Option (List ℕ)

-- ---- one file
-- These are the bytes that are told, or any where none are told.
abbrev pub MayHold : Option (List ℕ) → List ℕ → Type 0
MayHold told bytes = IfSome told (λ held. held ≡ bytes)

-- A file holds no more bytes than a file may.
pub record MayFit (most : ℕ) (told : Option (List ℕ)) : Type 0 where
  pub bytes : List ℕ
  pub held : MayHold told bytes
  pub fits : length bytes ≤ most

-- A file holds more bytes than a file may.
pub record IsTooLong (most : ℕ) (told : Option (List ℕ)) : Type 0 where
  pub bytes : List ℕ
  pub held : MayHold told bytes
  pub longer : most < length bytes

-- ---- files in their order
-- P holds of one of these files, and those before it may fit.
abbrev pub FirstIs : (most : ℕ) → Told → (List ℕ → Type 0) → List (List ℕ) → Type 0
FirstIs most told P [] = ⊥
FirstIs most told P (name ∷ names) = P name ⊎ (MayFit most (told name) × FirstIs most told P names)

-- Each of these files may hold its bytes.
abbrev pub MayHoldAll : Told → (names files : List (List ℕ)) → Type 0
MayHoldAll told [] [] = Unit {0}
MayHoldAll told (name ∷ names) (bytes ∷ files) = MayHold (told name) bytes × MayHoldAll told names files
MayHoldAll told names files = ⊥

-- P holds of the first of these files with more bytes than a file may have.
abbrev pub FirstLong : (most : ℕ) → (List ℕ → Type 0) → (names files : List (List ℕ)) → Type 0
FirstLong most P (name ∷ names) (bytes ∷ files) =
    (most < length bytes × P name) ⊎ (length bytes ≤ most × FirstLong most P names files)
FirstLong most P names files = ⊥

-- None has more.
abbrev pub AllFit : (most : ℕ) → List (List ℕ) → Type 0
AllFit most [] = Unit {0}
AllFit most (bytes ∷ files) = length bytes ≤ most × AllFit most files

-- what is told of these files; none where of one of them nothing is told
abbrev pub joined : Option (List ℕ) → Option (List (List ℕ)) → Option (List (List ℕ))
joined (Some bytes) (Some files) = Some (bytes ∷ files)
joined None files = None
joined (Some bytes) None = None

abbrev pub all_told : Told → List (List ℕ) → Option (List (List ℕ))
all_told told [] = Some []
all_told told (name ∷ names) = joined (told name) (all_told told names)
