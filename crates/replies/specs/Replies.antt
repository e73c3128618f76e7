-- What a call answers: an exit status, and the bytes that are written. Own choice.
use Rattle.std.specs.Prelude.{ℕ, ◌++◌, List, codes}

pub record Reply : Type 0 where
  pub status : ℕ
  pub bytes : List ℕ

-- ---- refusals, of one line each, all of a program with the same front
abbrev pub refusal : (front : List ℕ) → ℕ → List ℕ → Reply
refusal front status reason = record { status = status; bytes = front ++ reason ++ codes "\n" }

-- the file could not be read
abbrev pub cannot_read : (front file : List ℕ) → Reply
cannot_read front file = refusal front 3 (codes "cannot read " ++ file)

-- the file has more bytes than a file may have
abbrev pub too_long : (front file : List ℕ) → Reply
too_long front file = refusal front 1 (file ++ codes ": too long")
