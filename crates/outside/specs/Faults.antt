-- Counts of calls and of faults. They are kept in 64 bits and stay at the last number that fits.
use Rattle.std.specs.Prelude.{◌≤◌, ◌+◌, ◌-◌, ◌^◌, ◌==◌, ◌++◌, min, ℕ, Bool, List, [], ◌∷◌}
use Rattle.std.specs.List.{list_any}

-- one more, or the last number
abbrev pub counted_up : ℕ → ℕ
counted_up count = min (count + 1) (2 ^ 64 - 1)

-- A count rose where it is more than before. At the last number it counts as risen.
abbrev pub Rose : ℕ → ℕ → Type 0
Rose before now = counted_up before ≤ now

-- the call of this number, from 0, is one of those that fail
abbrev pub fails_at : List ℕ → ℕ → Bool
fails_at fail call = list_any (λ number. number == call) fail

-- What is known of a source of files that tells nothing of them: how many fetches failed, the name at the last of these,
-- the names of all, and of those that gave the bytes.
pub record FetchFaults : Type 0 where
  pub count : ℕ
  pub name : List ℕ
  pub asked : List (List ℕ)
  pub had : List (List ℕ)

-- one fetch more was made, for this name
abbrev pub asked_for : FetchFaults → List ℕ → FetchFaults
asked_for faults name = record faults { asked = faults.asked ++ name ∷ [] }

-- it gave the bytes
abbrev pub had_by : FetchFaults → List ℕ → FetchFaults
had_by faults name = record faults { had = faults.had ++ name ∷ [] }

-- one more has failed, at this name
abbrev pub failed_at : FetchFaults → List ℕ → FetchFaults
failed_at faults name = record faults { count = counted_up faults.count; name = name }

-- what is known of a sink that tells nothing of what was written: how many puts failed, and the bytes of all
pub record PutFaults : Type 0 where
  pub count : ℕ
  pub puts : List (List ℕ)

-- one put more was made, of these bytes
abbrev pub put_of : PutFaults → List ℕ → PutFaults
put_of faults bytes = record faults { puts = faults.puts ++ bytes ∷ [] }

-- one more has failed
abbrev pub put_failed : PutFaults → PutFaults
put_failed faults = record faults { count = counted_up faults.count }
