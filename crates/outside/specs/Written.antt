-- What a sink was given, and what it holds after a write that failed half-way.
use Rattle.std.specs.Prelude.{◌≡◌, ◌≤◌, ◌++◌, ℕ, List, [], ◌∷◌, length, take, Option, Some, None, ⊤}
use Rattle.std.specs.Io.KnownBytes.{Appends}

-- Where it is told, what is held now is what was held, and a front of these bytes.
abbrev pub AppendsFront : Option (List ℕ) → Option (List ℕ) → List ℕ → Type 0
AppendsFront None new bytes = ⊤
AppendsFront (Some old) None bytes = ⊥
AppendsFront (Some old) (Some new) bytes = (count : ℕ) × (count ≤ length bytes) × (new ≡ old ++ take count bytes)

-- ---- one put
-- What is known of a sink: the bytes written so far, where they are told, and the bytes of each put.
pub record Output : Type 0 where
  pub written : Option (List ℕ)
  pub puts : List (List ℕ)

abbrev pub output : {K : Type 0} → (written : K → Option (List ℕ)) → (puts : K → List (List ℕ)) → K → Output
output written puts sink = record { written = written sink; puts = puts sink }

-- There was one put, of these bytes, and they were written.
pub record PutsWhole (bytes : List ℕ) (old new : Output) : Type 0 where
  pub put : new.puts ≡ old.puts ++ bytes ∷ []
  pub written : Appends old.written new.written bytes

-- There was one put, of these bytes, and a front of them was written.
pub record PutsFront (bytes : List ℕ) (old new : Output) : Type 0 where
  pub put : new.puts ≡ old.puts ++ bytes ∷ []
  pub front : AppendsFront old.written new.written bytes
