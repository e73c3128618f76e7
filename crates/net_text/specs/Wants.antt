-- Where reading stopped for want of memory, where n steps are counted: what comes before has been made, and of the
-- closure that was under way `close` says at which of its calls it stopped, within that call's limits. Own choice.
use Rattle.std.specs.Prelude.{◌≡◌, ◌⊎◌, ℕ, ◌+◌, ◌<◌, List, [], ◌∷◌, ◌++◌, Bool, true, false, Option, Result, Ok, Err}
use Rattle.std.specs.List.{AllZip}
use Rattle.upp_curve.specs.Curve.{SpecCurve}
use Rattle.net_model.specs.Networks.{NetServer, NetFlow}
use Rattle.net_model.specs.declared.fault.NetFault.{NetFault}
use Rattle.net_model.specs.declared.fault.NetKind.{NetKind}
use Rattle.net_draft.specs.Drafts.{draft_of}
use Rattle.net_draft.specs.Made.{IsOverNone}
use Rattle.net_draft.specs.Texts.{CurveText, FlowText, DraftText}
use Rattle.subadd_closure.specs.FoldMemory.{CloseWants}
use Rattle.net_text.specs.Becoming.{IsCurveOf}
use Rattle.net_text.specs.Built.{IsServerOf, IsLiveFlowOf}
use Rattle.net_text.specs.Folds.{FoldsOf}

-- ---- one arrival
-- in the closure of a text's curve
pub record ClosureWants (text : CurveText) (n : ℕ) : Type 0 where
  pub curve : SpecCurve
  pub is : IsCurveOf text curve
  pub wants : CloseWants curve n

-- a curve that is not closed takes no step, and is over no limit
abbrev pub ArrivalWants : Bool → CurveText → (n : ℕ) → Type 0
ArrivalWants false text n = (n ≡ 0) × IsOverNone text
ArrivalWants true text n = ClosureWants text n

-- before any step of the arrival, or in the arrival
abbrev pub FlowWants : Bool → CurveText → (n : ℕ) → Type 0
FlowWants closes text n = (n ≡ 0) ⊎ ArrivalWants closes text n

-- ---- all flows
abbrev pub StopsIn : List FlowText → (n : ℕ) → Type 0
StopsIn [] n = n ≡ 0
StopsIn (f ∷ fs) n = FlowWants f.closes f.arrival n

-- some of the flows have been made, with a step for each operator of the folds of their closures, and it stopped at the
-- first of the others, or between
pub record FlowsWant (flows : List FlowText) (n : ℕ) : Type 0 where
  pub before : List FlowText
  pub after : List FlowText
  pub are : flows ≡ before ++ after
  pub made : List (Option NetFlow)
  pub built : AllZip IsLiveFlowOf before made
  pub count : ℕ
  pub folds : FoldsOf before count
  pub more : ℕ
  pub counted : n ≡ count + more
  pub stops : StopsIn after more

-- ---- a file
-- there is a draft, whose servers have all been made, and it stopped in the flows
pub record FileWants (bytes : List ℕ) (n : ℕ) : Type 0 where
  pub draft : DraftText
  pub is_draft : draft_of bytes ≡ Ok draft
  pub servers : List NetServer
  pub built : AllZip IsServerOf draft.servers servers
  pub flows : FlowsWant draft.flows n

-- where any step is counted
abbrev pub FileEnds : List ℕ → (n : ℕ) → Type 0
FileEnds bytes n = 0 < n → FileWants bytes n

-- an answer by the kind of its fault, which tells want of memory
abbrev pub by_kind : {A : Type 0} → Result A NetFault → Result A NetKind
by_kind (Ok x) = Ok x
by_kind (Err fault) = Err fault.kind
