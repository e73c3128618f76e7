-- Which unknown key a fault names. Own choice.
use Rattle.std.specs.Prelude.{◌≡◌, ◌≢◌, ℕ, List, [], ◌∷◌, false, AllPairs, Contains, Err}
use Rattle.std.specs.List.{list_any}
use Rattle.std.specs.Str.{bytes_eq}
use Rattle.std.specs.Ordering.{nat_cmp}
use Rattle.std.specs.Cmp.Lexicographic.{slice_cmp}
use Rattle.std.specs.declared.cmp.Ordering.{Ordering}
use Rattle.std.specs.declared.cmp.Ordering.TheVariants.{Less}
use Rattle.toml.specs.Data.{Members, no_members, member}
use Rattle.net_model.specs.declared.fault.NetKind.TheVariants.{M3}
use Rattle.net_draft.specs.Faults.{Fault, under}
use Rattle.net_draft.specs.Keys.{only}

-- the keys of a table
abbrev pub keys_of : Members → List (List ℕ)
keys_of no_members = []
keys_of (member k d ms) = k ∷ keys_of ms

abbrev pub ComesBefore : List ℕ → List ℕ → Type 0
ComesBefore k l = slice_cmp nat_cmp k l ≡ Less

-- as the keys of each table that is read do
abbrev pub KeysAscend : Members → Type 0
KeysAscend ms = AllPairs ComesBefore (keys_of ms)

abbrev pub IsUnknown : List (List ℕ) → List ℕ → Type 0
IsUnknown known k = list_any (bytes_eq k) known ≡ false

-- an unknown key of the table, and each other unknown key comes after it
pub record IsLeastUnknown (known : List (List ℕ)) (ms : Members) (k : List ℕ) : Type 0 where
  pub is_key : Contains (keys_of ms) k
  pub unknown : IsUnknown known k
  pub least : (l : List ℕ) → Contains (keys_of ms) l → IsUnknown known l → l ≢ k → ComesBefore k l

pub record NamesLeast (known : List (List ℕ)) (place : List ℕ) (ms : Members) (f : Fault) : Type 0 where
  pub key : List ℕ
  pub kind : f.kind ≡ M3
  pub at : f.place ≡ under place key
  pub is_least : IsLeastUnknown known ms key

abbrev pub UnknownKeyIsLeast : Type 0
UnknownKeyIsLeast = (known : List (List ℕ)) (place : List ℕ) (ms : Members) (f : Fault) → KeysAscend ms
    → only known place ms ≡ Err f → NamesLeast known place ms f
