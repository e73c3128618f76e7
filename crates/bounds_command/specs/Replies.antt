-- What a call answers. Own choice.
use Rattle.std.specs.Prelude.{ℕ, ◌++◌, List, codes}
use Rattle.std.specs.List.{flat_map}
use Rattle.document_tables.specs.declared.fault.LineFault.{LineFault}
use Rattle.document_tables.specs.FaultLines.{fault_line}
use Rattle.replies.specs.Replies as replies
pub use Rattle.replies.specs.Replies.{Reply}

-- ---- refusals, of one line each
abbrev pub refusal : ℕ → List ℕ → Reply
refusal = replies.refusal (codes "netbound: ")

-- the file could not be read
abbrev pub cannot_read : List ℕ → Reply
cannot_read = replies.cannot_read (codes "netbound: ")

-- the file has more bytes than a table may have
abbrev pub too_long : List ℕ → Reply
too_long = replies.too_long (codes "netbound: ")

-- the table of the file has this first fault
abbrev pub has_fault : List ℕ → LineFault → Reply
has_fault file fault = record { status = 1; bytes = fault_line file fault }

-- links go round, over the ports with these names
abbrev pub after_space : List ℕ → List ℕ
after_space name = codes " " ++ name

abbrev pub goes_round : List (List ℕ) → Reply
goes_round names = refusal 8 (codes "cycle" ++ flat_map after_space names)
