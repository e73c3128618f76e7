-- What is made of the bytes of a file whose tables break no rule. Own choice.
use Rattle.std.specs.Prelude.{◌≡◌, ◌⊎◌, ℕ, List, All, IfOk, Ok}
use Rattle.upp_curve.specs.Curves.{IsCurve}
use Rattle.net_model.specs.Accepted.{IsAccepted}
use Rattle.net_model.specs.Networks.{Net}
use Rattle.net_draft.specs.declared.draft.Draft.{Draft}
use Rattle.net_draft.specs.declared.flow_draft.FlowDraft.{FlowDraft}
use Rattle.net_draft.specs.declared.server_draft.ServerDraft.{ServerDraft}
use Rattle.net_draft.specs.DraftViews.{draft_text}
use Rattle.net_draft.specs.Drafts.{draft_of}
use Rattle.net_draft.specs.Faults.{Fault}
use Rattle.net_draft.specs.Kept.{IsDraft}
use Rattle.net_draft.specs.Texts.{DraftText}
use Rattle.net_text.specs.Built.{IsBuilt}
use Rattle.net_text.specs.Firsts.{FirstCurveOver, curves_of}
use Rattle.net_text.specs.Folds.{FoldsOf}

-- ---- curves
-- what was made of the text, if it is a curve, is in normal form and readable
abbrev pub HasService : ServerDraft → Type 0
HasService s = IfOk s.service.made IsCurve

abbrev pub HasArrival : FlowDraft → Type 0
HasArrival f = IfOk f.arrival.made IsCurve

-- ---- networks
-- an accepted network is built of the draft
pub record HasNetwork (d : DraftText) : Type 0 where
  pub net : Net
  pub built : IsBuilt d net
  pub accepted : IsAccepted net

-- or one of its curves is the first over a limit
abbrev pub HasNetworkOrFault : DraftText → Type 0
HasNetworkOrFault d = HasNetwork d ⊎ ((f : Fault) × FirstCurveOver (curves_of d) f)

-- ---- files
-- what holds of what the bytes of each file say whose tables break no rule
abbrev pub OfFiles : (DraftText → Type 0) → Type 0
OfFiles Holds = (bytes : List ℕ) (text : DraftText) → draft_of bytes ≡ Ok text → Holds text

-- a draft says it, with the curve of each text, in normal form and readable, or the limit that it is over
pub record HasDraft (text : DraftText) : Type 0 where
  pub draft : Draft
  pub is : draft_text draft ≡ text
  pub kept : IsDraft draft
  pub services : All HasService draft.servers.items
  pub arrivals : All HasArrival draft.flows.items

abbrev pub DraftsExist : Type 0
DraftsExist = OfFiles HasDraft

abbrev pub FoldsExist : Type 0
FoldsExist = OfFiles (λ text. (total : ℕ) × FoldsOf text.flows total)

abbrev pub DraftsHaveNetworks : Type 0
DraftsHaveNetworks = OfFiles HasNetworkOrFault
