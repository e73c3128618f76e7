-- What a curve of a file becomes: a curve of the network, or the limit that it is over. Own choice.
use Rattle.std.specs.Prelude.{◌≡◌, ◌⊎◌, ℕ, List, Bool, true, false, Result, Ok, Err}
use Rattle.std.specs.String.{string_bytes}
use Rattle.upp_curve.specs.Curve.{SpecCurve}
use Rattle.upp_curve.specs.Curves.{IsCurve}
use Rattle.upp_limits.specs.declared.own_limits.OverLimit.{OverLimit}
use Rattle.upp_limits.specs.declared.own_limits.OverLimit.TheVariants.{TooMany, TooWide}
use Rattle.net_model.specs.declared.fault.NetKind.{NetKind}
use Rattle.net_model.specs.declared.fault.NetKind.TheVariants.{CurveTooMany, CurveTooWide, NoMemory}
use Rattle.net_model.specs.declared.fault.NetFault.{NetFault}
use Rattle.net_draft.specs.declared.fault.DraftFault.{DraftFault}
use Rattle.net_draft.specs.declared.fault.DraftFault.TheVariants as answers
use Rattle.net_draft.specs.Faults.{Fault, fault_of}
use Rattle.net_draft.specs.Made.{IsMade}
use Rattle.net_draft.specs.Texts.{CurveText}
use Rattle.net_text.specs.Closing.{Closes}

-- the curve of a text
pub record IsCurveOf (text : CurveText) (c : SpecCurve) : Type 0 where
  pub curve : IsCurve c
  pub made : IsMade text (Ok c)

-- the curve, or the limit that it is over
abbrev pub BecomesItself : CurveText → Result SpecCurve OverLimit → Type 0
BecomesItself text (Ok c) = IsCurveOf text c
BecomesItself text (Err limit) = IsMade text (Err limit)

-- what its closure answers
pub record ClosesMade (text : CurveText) (r : Result SpecCurve OverLimit) : Type 0 where
  pub made : SpecCurve
  pub is : IsCurveOf text made
  pub closes : Closes made r

-- the closure in the place of the curve; a limit is the curve's own, or that of the fold of its closure
abbrev pub BecomesClosed : CurveText → Result SpecCurve OverLimit → Type 0
BecomesClosed text (Ok closed) = ClosesMade text (Ok closed)
BecomesClosed text (Err limit) = IsMade text (Err limit) ⊎ ClosesMade text (Err limit)

abbrev pub Becomes : Bool → CurveText → Result SpecCurve OverLimit → Type 0
Becomes false text = BecomesItself text
Becomes true text = BecomesClosed text

-- ---- faults
abbrev pub limit_kind : OverLimit → NetKind
limit_kind TooMany = CurveTooMany
limit_kind TooWide = CurveTooWide

-- the fault of a curve at a place
abbrev pub limit_fault : OverLimit → List ℕ → Fault
limit_fault limit place = record { kind = limit_kind limit; place = place }

-- the fault of that limit at a place, and no want of memory
abbrev pub IsLimitFault : OverLimit → List ℕ → DraftFault → Type 0
IsLimitFault limit place answers.NoMemory = ⊥
IsLimitFault limit place (answers.Fault f) = (f.kind ≡ limit_kind limit) × (string_bytes f.place ≡ place)

-- what becomes of a curve is that it is over a limit, and the fault says which, and where
pub record IsOverAt (Answers : Result SpecCurve OverLimit → Type 0) (place : List ℕ) (f : Fault) : Type 0 where
  pub limit : OverLimit
  pub over : Answers (Err limit)
  pub is : f ≡ limit_fault limit place

-- the same of a fault that may be want of memory
abbrev pub FailsAt : (Result SpecCurve OverLimit → Type 0) → List ℕ → DraftFault → Type 0
FailsAt Answers place answers.NoMemory = Unit {0}
FailsAt Answers place (answers.Fault f) = IsOverAt Answers place (fault_of f)

-- ---- answers
-- the fault that a caller is told
abbrev pub IsTold : DraftFault → NetFault → Type 0
IsTold answers.NoMemory f = f.kind ≡ NoMemory
IsTold (answers.Fault g) f = f ≡ g
