-- A sink in memory.
use Rattle.std.specs.Prelude.{ℕ, ◌+◌, ◌++◌, ◌||◌, Bool, List, [], ◌∷◌, length, nat_lt, if◌then◌else◌}
use Rattle.outside.specs.Faults.{counted_up, fails_at}

-- The bytes that were put. `fail` has the numbers of the calls that fail, and `calls` is how many were made. `faults` is
-- how many failed. `puts` has the bytes of all calls.
pub record MemoryBytes : Type 0 where
  pub bytes : List ℕ
  pub fail : List ℕ
  pub calls : ℕ
  pub faults : ℕ
  pub puts : List (List ℕ)

-- the bytes that a sink has room for
abbrev pub room : ℕ
room = 4194304

-- the next call fails: it is one of those that do, or so many bytes more would pass the room
abbrev pub put_fails : MemoryBytes → ℕ → Bool
put_fails memory more = fails_at memory.fail memory.calls || nat_lt room (length memory.bytes + more)

-- after a put of these bytes
abbrev pub after_put : MemoryBytes → List ℕ → MemoryBytes
after_put memory bytes =
    let called = record memory { calls = counted_up memory.calls; puts = memory.puts ++ bytes ∷ [] } in
    if put_fails memory (length bytes) then record called { faults = counted_up memory.faults }
    else record called { bytes = memory.bytes ++ bytes }
