-- How many steps reading may take: the operators of the folds of the closures that a file asks for. Own choice.
use Rattle.std.specs.Prelude.{◌≡◌, ◌⊎◌, ◌+◌, ◌≤◌, ℕ, List, [], ◌∷◌, Bool, true, false, Ok, Err}
use Rattle.upp_curve.specs.Curve.{SpecCurve}
use Rattle.upp_limits.specs.declared.own_limits.OverLimit.{OverLimit}
use Rattle.net_draft.specs.Drafts.{draft_of}
use Rattle.net_draft.specs.Faults.{Read}
use Rattle.net_draft.specs.Made.{IsMade}
use Rattle.net_draft.specs.Texts.{CurveText, FlowText, DraftText}
use Rattle.subadd_closure.specs.FoldWork.{fold_work}
use Rattle.net_text.specs.Becoming.{IsCurveOf}

-- a curve that is over a limit has no fold
pub record NoFold (text : CurveText) (count : ℕ) : Type 0 where
  pub limit : OverLimit
  pub over : IsMade text (Err limit)
  pub count_is : count ≡ 0

-- a sum of two
pub record IsSumOf (First Rest : ℕ → Type 0) (total : ℕ) : Type 0 where
  pub first : ℕ
  pub rest : ℕ
  pub is_first : First first
  pub is_rest : Rest rest
  pub sum : total ≡ first + rest

-- the operators of the fold of a text's curve
pub record FoldOfCurve (text : CurveText) (count : ℕ) : Type 0 where
  pub curve : SpecCurve
  pub is : IsCurveOf text curve
  pub count_is : count ≡ fold_work curve

abbrev pub FoldOf : Bool → CurveText → ℕ → Type 0
FoldOf false text count = count ≡ 0
FoldOf true text count = FoldOfCurve text count ⊎ NoFold text count

-- those of all flows
abbrev pub FoldsOf : List FlowText → ℕ → Type 0
FoldsOf [] total = total ≡ 0
FoldsOf (f ∷ fs) total = IsSumOf (FoldOf f.closes f.arrival) (FoldsOf fs) total

-- those of a file: none where there is no draft
abbrev pub FoldsOfRead : Read DraftText → ℕ → Type 0
FoldsOfRead (Ok d) total = FoldsOf d.flows total
FoldsOfRead (Err f) total = total ≡ 0

abbrev pub FoldsOfFile : List ℕ → ℕ → Type 0
FoldsOfFile bytes total = FoldsOfRead (draft_of bytes) total

-- reading takes no more steps than these
abbrev pub StepsAtMost : List ℕ → (before after : ℕ) → Type 0
StepsAtMost bytes before after = (total : ℕ) → FoldsOfFile bytes total → after ≤ before + total
