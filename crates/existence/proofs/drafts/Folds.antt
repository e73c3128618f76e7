-- The folds of the closures of a draft have a number of operators.
use Rattle.std.specs.Prelude.{All}
use Rattle.std.proofs.Common.{ℕ, ◌+◌, List, [], ◌∷◌, map, Bool, true, false, Result, Ok, Err, IfOk, inl, inr, refl}
use Rattle.std.proofs.lemmas.List.Elements.{All-head, All-tail}
use Rattle.upp_curve.specs.Curve.{SpecCurve}
use Rattle.upp_curve.specs.Curves.{IsCurve}
use Rattle.upp_limits.specs.declared.own_limits.OverLimit.{OverLimit}
use Rattle.net_draft.specs.declared.flow_draft.FlowDraft.{FlowDraft}
use Rattle.net_draft.specs.CurveTexts.{text_of}
use Rattle.net_draft.specs.Kept.{IsMadeDraft}
use Rattle.net_draft.specs.Made.{IsMade}
use Rattle.net_draft.specs.Texts.{CurveText}
use Rattle.net_draft.specs.Views.{flow_text}
use Rattle.net_text.specs.Folds.{FoldOf, FoldsOf}
use Rattle.subadd_closure.specs.FoldWork.{fold_work}
use Rattle.existence.specs.drafts.Drafts.{HasArrival}

fold_of : (closes : Bool) (text : CurveText) (made : Result SpecCurve OverLimit) → IsMade text made → IfOk made IsCurve
    → (count : ℕ) × FoldOf closes text count
fold_of false text made m k = (0, refl)
fold_of true text (Ok c) m k =
    (fold_work c, inl record { curve = c; is = record { curve = k; made = m }; count_is = refl })
fold_of true text (Err limit) m k = (0, inr record { limit = limit; over = m; count_is = refl })

pub folds_of : (flows : List FlowDraft) → All (λ f. IsMadeDraft f.arrival) flows → All HasArrival flows
    → (total : ℕ) × FoldsOf (map flow_text flows) total
folds_of [] made curves = (0, refl)
folds_of (f ∷ fs) made curves =
    let (first, is_first) = fold_of f.closes (text_of f.arrival.text) f.arrival.made
    (All-head (λ (f : FlowDraft). IsMadeDraft f.arrival) f fs made) (All-head HasArrival f fs curves) in
    let (rest, is_rest) = folds_of fs (All-tail (λ (f : FlowDraft). IsMadeDraft f.arrival) f fs made)
    (All-tail HasArrival f fs curves) in
    (first + rest, record { first = first; rest = rest; is_first = is_first; is_rest = is_rest; sum = refl })
