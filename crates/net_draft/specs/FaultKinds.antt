-- Which kinds of fault the tables of a file have. Own choice.
use Rattle.std.specs.Prelude.{◌≡◌, ℕ, List, Err}
use Rattle.net_model.specs.declared.fault.NetKind.{NetKind}
use Rattle.net_model.specs.declared.fault.NetKind.TheVariants as kinds
use Rattle.net_draft.specs.Drafts.{draft_of}
use Rattle.net_draft.specs.Faults.{Fault}

-- M1 to M12: no limit of a curve, and no want of memory
abbrev pub IsOfTables : NetKind → Type 0
IsOfTables kinds.CurveTooMany = ⊥
IsOfTables kinds.CurveTooWide = ⊥
IsOfTables kinds.NoMemory = ⊥
IsOfTables _ = Unit {0}

-- the first fault of a file is one of its tables
abbrev pub FaultsAreOfTables : Type 0
FaultsAreOfTables = (bytes : List ℕ) (f : Fault) → draft_of bytes ≡ Err f → IsOfTables f.kind
