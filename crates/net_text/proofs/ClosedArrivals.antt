-- What was made of an arrival's text, and what its closure becomes.
use Rattle.std.specs.Prelude.{IfOk, IfErr}
use Rattle.std.specs.String.{string_bytes}
use Rattle.std.proofs.Common.{◌≡◌, refl, ℕ, Bool, true, false, List, Result, Ok, Err, subst, inr, true≢false, sym}
use Rattle.upp_curve.specs.Curve.{SpecCurve}
use Rattle.upp_limits.specs.declared.own_limits.OverLimit.{OverLimit}
use Rattle.net_model.specs.Accepted.{IsArrivalCurve}
use Rattle.net_model.specs.declared.fault.NetFault.{NetFault}
use Rattle.net_draft.specs.declared.curve_draft.CurveDraft.{CurveDraft}
use Rattle.net_draft.specs.declared.fault.DraftFault.{DraftFault}
use Rattle.net_draft.specs.declared.fault.DraftFault.TheVariants as answers
use Rattle.net_draft.specs.Faults.{fault_of}
use Rattle.net_draft.specs.CurveTexts.{text_of}
use Rattle.net_draft.specs.Kept.{IsArrivalDraft}
use Rattle.net_draft.specs.Made.{IsMade}
use Rattle.net_draft.specs.Texts.{CurveText}
use Rattle.net_draft.proofs.MayStand.{made_may_stand}
use Rattle.net_text.specs.Becoming.{IsCurveOf, Becomes, FailsAt, IsLimitFault, limit_kind, limit_fault}
use Rattle.net_text.specs.Closing.{OverFold, Closes}

pub made_is : (packet : ℕ) (d : CurveDraft) (c : SpecCurve) → IsArrivalDraft packet d → d.made ≡ Ok c → IsMade (text_of d.text) (Ok c)
made_is packet d c h is = subst (IsMade (text_of d.text)) is h.made

pub arrival_stands : (packet : ℕ) (d : CurveDraft) (c : SpecCurve) → IsArrivalDraft packet d → d.made ≡ Ok c → IsArrivalCurve c
arrival_stands packet d c h is = made_may_stand.arrival packet (text_of d.text) c h.own (made_is packet d c h is)

fault_is : (g : NetFault) (limit : OverLimit) (place : List ℕ) → g.kind ≡ limit_kind limit → string_bytes g.place ≡ place → fault_of g ≡ limit_fault limit place
fault_is g limit place kind at = rw (kind, at) refl

-- a limit is never told as want of memory
pub limit_is_told : (limit : OverLimit) (place : List ℕ) (e : DraftFault) → IsLimitFault limit place e → (let r : Result SpecCurve DraftFault = Err e in r) ≡ Err answers.NoMemory → ⊥
limit_is_told limit place answers.NoMemory is wants = is
limit_is_told limit place (answers.Fault g) is wants = cc

closed_becomes : (closes : Bool) (text : CurveText) (c closed : SpecCurve) → closes ≡ true → IsCurveOf text c → Closes c (Ok closed) → Becomes closes text (Ok closed)
closed_becomes false text c closed e is h = absurd (true≢false (sym e))
closed_becomes true text c closed e is h = record { made = c; is = is; closes = h }

closed_fails : (closes : Bool) (text : CurveText) (c : SpecCurve) (place : List ℕ) (e : DraftFault) → closes ≡ true → IsCurveOf text c → FailsAt (Closes c) place e → FailsAt (Becomes closes text) place e
closed_fails closes text c place answers.NoMemory e is h = tt
closed_fails false text c place (answers.Fault f) e is h = absurd (true≢false (sym e))
closed_fails true text c place (answers.Fault f) e is h = record { limit = h.limit; over = inr (record { made = c; is = is; closes = h.over }); is = h.is }

pub closed_ok : (closes : Bool) (text : CurveText) (c : SpecCurve) (r : Result SpecCurve DraftFault) → closes ≡ true → IsCurveOf text c → IfOk r (λ d. Closes c (Ok d)) → IfOk r (λ d. Becomes closes text (Ok d))
closed_ok closes text c (Ok d) e is h = closed_becomes closes text c d e is h
closed_ok closes text c (Err f) e is h = tt

pub closed_err : (closes : Bool) (text : CurveText) (c : SpecCurve) (place : List ℕ) (r : Result SpecCurve DraftFault) → closes ≡ true → IsCurveOf text c → IfErr r (FailsAt (Closes c) place) → IfErr r (FailsAt (Becomes closes text) place)
closed_err closes text c place (Ok d) e is h = tt
closed_err closes text c place (Err f) e is h = closed_fails closes text c place f e is h

-- a fault of the kind of the limit that a fold is over tells that limit
pub limit_fails : (f : SpecCurve) (limit : OverLimit) (place : List ℕ) (e : DraftFault) → IsLimitFault limit place e → OverFold f limit → FailsAt (Closes f) place e
limit_fails f limit place answers.NoMemory is over = tt
limit_fails f limit place (answers.Fault g) is over = record { limit = limit; over = over; is = fault_is g limit place is.0 is.1 }
