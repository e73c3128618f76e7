-- How names are found by their texts. Own choice.
use Rattle.std.specs.Prelude.{◌≡◌, ℕ, List, String, Some, slice_get}
use Rattle.std.specs.BTreeMap.{BTreeMap, get_by_text}
use Rattle.std.specs.List.{position}
use Rattle.std.specs.Str.{bytes_eq}
use Rattle.std.specs.declared.alloc.Global.{Global}

-- no two names are one: each is found at its own place
abbrev pub AreOwn : List (List ℕ) → Type 0
AreOwn names = (number : ℕ) (name : List ℕ) → slice_get names number ≡ Some name → position (bytes_eq name) names ≡ Some number

-- A text has the number of the name that it is, and none where it is no name. No two names are one.
pub record AreNumbersOf (numbers : BTreeMap (String Global) ℕ) (names : List (List ℕ)) : Type 0 where
  pub found : (text : List ℕ) → get_by_text numbers text ≡ position (bytes_eq text) names
  pub own : AreOwn names
