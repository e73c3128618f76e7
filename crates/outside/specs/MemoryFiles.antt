-- Files in memory, and what has been asked of them.
use Rattle.std.specs.Prelude.{ℕ, ◌||◌, ◌++◌, Bool, List, [], ◌∷◌, map, Option, Some, None, is_none, String, Vec, string_bytes, if◌then◌else◌}
use Rattle.std.specs.declared.alloc.Global.{Global}
use Rattle.std.specs.Str.{bytes_eq}
use Rattle.outside.specs.Faults.{counted_up, fails_at}

-- Each file is a name and what it holds. `fail` has the numbers of the calls that fail, and `calls` is how many were
-- made. `faults` is how many failed, and `last_fault` the name that was asked for at the last of these. `asked` has the
-- names of all calls, and `had` of those that gave the bytes.
pub record MemoryFiles : Type 0 where
  pub files : List (List ℕ × List ℕ)
  pub fail : List ℕ
  pub calls : ℕ
  pub faults : ℕ
  pub last_fault : List ℕ
  pub asked : List (List ℕ)
  pub had : List (List ℕ)

-- the files of a list of pairs, by their contents
abbrev pub files_of : List (String Global × Vec ℕ Global) → List (List ℕ × List ℕ)
files_of pairs = map (λ pair. (string_bytes pair.0, pair.1.items)) pairs

-- what the first file of this name holds
abbrev pub held : List (List ℕ × List ℕ) → List ℕ → Option (List ℕ)
held [] name = None
held (file ∷ files) name = if bytes_eq file.0 name then Some file.1 else held files name

-- the next call fails: it is one of those that do, or there is no file of this name
abbrev pub fetch_fails : MemoryFiles → List ℕ → Bool
fetch_fails memory name = fails_at memory.fail memory.calls || is_none (held memory.files name)

-- one call more was made, for this name
abbrev pub called : MemoryFiles → List ℕ → MemoryFiles
called memory name = record memory { calls = counted_up memory.calls; asked = memory.asked ++ name ∷ [] }

-- it gave the bytes
abbrev pub had_too : MemoryFiles → List ℕ → MemoryFiles
had_too memory name = record memory { had = memory.had ++ name ∷ [] }

-- one call more has failed, at this name
abbrev pub failed : MemoryFiles → List ℕ → MemoryFiles
failed memory name = record memory { faults = counted_up memory.faults; last_fault = name }

-- after a call for this name, but for what was had
abbrev pub after_fetch : MemoryFiles → List ℕ → MemoryFiles
after_fetch memory name =
    if fetch_fails memory name then failed (called memory name) name else called memory name
