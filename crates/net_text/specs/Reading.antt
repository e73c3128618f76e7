-- The network of a file, and its first fault. Own choice.
use Rattle.std.specs.Prelude.{◌≡◌, ◌⊎◌, ℕ, List, Ok, Err}
use Rattle.net_model.specs.Networks.{Net}
use Rattle.net_model.specs.declared.fault.NetFault.{NetFault}
use Rattle.net_model.specs.declared.fault.NetKind.TheVariants.{NoMemory}
use Rattle.net_draft.specs.declared.fault.DraftFault.{DraftFault}
use Rattle.net_draft.specs.declared.fault.DraftFault.TheVariants as answers
use Rattle.net_draft.specs.Drafts.{draft_of}
use Rattle.net_draft.specs.Faults.{Fault, fault_of}
use Rattle.net_draft.specs.Texts.{DraftText}
use Rattle.net_text.specs.Built.{IsBuilt}
use Rattle.net_text.specs.Firsts.{FirstCurveOver, curves_of}

-- the network of a file that has no fault
pub record IsNetworkOf (bytes : List ℕ) (net : Net) : Type 0 where
  pub draft : DraftText
  pub is_draft : draft_of bytes ≡ Ok draft
  pub built : IsBuilt draft net

-- the first curve of a file's draft that is over a limit
pub record CurveFault (bytes : List ℕ) (f : Fault) : Type 0 where
  pub draft : DraftText
  pub is_draft : draft_of bytes ≡ Ok draft
  pub first : FirstCurveOver (curves_of draft) f

-- the first fault of a file: of its tables, or else of its curves
abbrev pub FirstFault : List ℕ → Fault → Type 0
FirstFault bytes f = (draft_of bytes ≡ Err f) ⊎ CurveFault bytes f

-- want of memory, or the first fault
abbrev pub IsAnswered : List ℕ → NetFault → Type 0
IsAnswered bytes f = (f.kind ≡ NoMemory) ⊎ FirstFault bytes (fault_of f)

-- the same before want of memory is told as a kind of its own
abbrev pub FailsFile : List ℕ → DraftFault → Type 0
FailsFile bytes answers.NoMemory = Unit {0}
FailsFile bytes (answers.Fault f) = FirstFault bytes (fault_of f)
