-- What the tests of refusals mean, and which curves of a draft a network may have.
use Rattle.std.specs.Prelude.{◌≡◌, ℕ, Option, Some, None, Result, Ok, Err}
use Rattle.rational.specs.Rational.{ℚ}
use Rattle.upp_curve.specs.Curve.{SpecCurve}
use Rattle.curve_library.specs.declared.fault.CurveFault.{CurveFault}
use Rattle.curve_library.specs.declared.fault.CurveFault.TheVariants as faults
use Rattle.net_model.specs.declared.fault.CurveRefusal.{CurveRefusal}
use Rattle.net_model.specs.declared.fault.CurveRefusal.TheVariants as refusals
use Rattle.net_model.specs.declared.server.ServiceKind.{ServiceKind}
use Rattle.net_model.specs.declared.server.ServiceKind.TheVariants as kinds
use Rattle.net_model.specs.Accepted.{IsServiceCurve, IsArrivalCurve, IsOfKind}
use Rattle.net_draft.specs.Texts.{CurveText, Bucket, Stair, RateLatency, Gate, Listed, IsServiceOf, IsArrivalOf}
use Rattle.net_draft.specs.Made.{CurveAnswers, IsMade}
use Rattle.net_draft.specs.Refusals.{refusal_of}

-- ---- refusals
-- the answer of the curves of a file
abbrev pub fault_for : CurveRefusal → CurveFault
fault_for refusals.Negative = faults.Negative
fault_for refusals.ZeroPeriod = faults.ZeroPeriod
fault_for refusals.NotRising = faults.NotRising
fault_for refusals.NotContinuous = faults.NotContinuous
fault_for refusals.NotZeroAtStart = faults.NotZeroAtStart

-- the tests find a cause exactly where it is there, and none where a curve can be made
pub record RefusalIsCause (text : CurveText) : Type 0 where
  pub told : (r : CurveRefusal) → refusal_of text ≡ Some r → CurveAnswers text (Err (fault_for r))
  pub found : (r : CurveRefusal) → CurveAnswers text (Err (fault_for r)) → refusal_of text ≡ Some r
  pub passes : (made : SpecCurve) → CurveAnswers text (Ok made) → refusal_of text ≡ None

abbrev pub RefusalsAreCauses : Type 0
RefusalsAreCauses = (text : CurveText) → RefusalIsCause text

-- ---- curves of a network
-- how the service of a server is given
abbrev pub kind_of : CurveText → ServiceKind
kind_of (Bucket burst rate) = kinds.Listed
kind_of (Stair packet period jitter) = kinds.Listed
kind_of (RateLatency rate latency) = kinds.Latency latency
kind_of (Gate rate cycle slot) = kinds.Gate cycle slot
kind_of (Listed pieces tail use_as) = kinds.Listed

-- what was made of a server's text may be a server's curve, and is of its kind; of a flow's text a flow's
pub record MadeMayStand : Type 0 where
  pub service : (rate : ℚ) (text : CurveText) (made : SpecCurve) → IsServiceOf rate text → IsMade text (Ok made)
      → IsServiceCurve made
  pub kind : (rate : ℚ) (text : CurveText) (made : SpecCurve) → IsServiceOf rate text → IsMade text (Ok made)
      → IsOfKind rate (kind_of text) made
  pub arrival : (packet : ℕ) (text : CurveText) (made : SpecCurve) → IsArrivalOf packet text → IsMade text (Ok made)
      → IsArrivalCurve made
