-- What it means that a call's answer is given: with which status the call ends, and what was put.
use Rattle.std.specs.Prelude.{◌≡◌, ℕ, List, Option}
use Rattle.outside.specs.Faults.{Rose}
use Rattle.outside.specs.Written.{Output, output, PutsWhole, PutsFront}

-- the status of a call whose answer was not written, and of no other
abbrev pub write_fault : ℕ
write_fault = 4

-- The call ends with this status, and there was one put, of these bytes, which were written.
abbrev pub Gives : (result status : ℕ) → (bytes : List ℕ) → (old new : Output) → Type 0
Gives result status bytes old new = (result ≡ status) × PutsWhole bytes old new

-- The sink failed in this call: there was one put, of these bytes, a front of which was written.
pub record FailsToGive {K : Type 0} (faults : K → ℕ) (written : K → Option (List ℕ)) (puts : K → List (List ℕ))
    (old new : K) (bytes : List ℕ) : Type 0 where
  pub rose : Rose (faults old) (faults new)
  pub front : PutsFront bytes (output written puts old) (output written puts new)
