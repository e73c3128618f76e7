-- Why an edit makes no network, and steps of which the first refusal counts. Own choice.
use Rattle.std.specs.Prelude.{ℕ, List, Bool, true, false, Result, Ok, Err}

-- a name of no server, or of no live flow; for one flow more a live flow's name; a value that may not be; no number left
-- for one flow more; no edit to undo
pub data Refusal : Type 0 where
  unknown_name : List ℕ → Refusal
  name_taken : List ℕ → Refusal
  bad_value : Refusal
  no_number_left : Refusal
  nothing_to_undo : Refusal

abbrev pub Or : Type 0 → Type 0
Or X = Result X Refusal

abbrev pub and_then : {X Y : Type 0} → Or X → (X → Or Y) → Or Y
and_then (Ok x) next = next x
and_then (Err refusal) next = Err refusal

-- a bad value where the test fails
abbrev pub only_if : {X : Type 0} → Bool → Or X → Or X
only_if true r = r
only_if false r = Err bad_value
