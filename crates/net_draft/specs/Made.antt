-- What is made of the text of a curve, and why a text is refused. Own choice.
use Rattle.std.specs.Prelude.{◌≡◌, ℕ, pos, List, Option, Some, None, Result, Ok, Err}
use Rattle.rational.specs.Rational.{ℚ, int, ◌≤ℚ◌, ◌<ℚ◌}
use Rattle.upp_curve.specs.Curve.{SpecCurve}
use Rattle.min_plus.specs.Functions.{zero_q}
use Rattle.upp_curve.specs.Kinds.{bucket, stair, rate_latency, gate}
use Rattle.upp_limits.specs.declared.own_limits.OverLimit.{OverLimit}
use Rattle.curve_library.specs.declared.fault.CurveFault.{CurveFault}
use Rattle.curve_library.specs.declared.fault.CurveFault.TheVariants as faults
use Rattle.curve_library.specs.Causes.{OneNegative, NoSlot, KeepsCauses}
use Rattle.curve_library.specs.Listed.{KeepsListed}
use Rattle.net_model.specs.declared.fault.CurveRefusal.TheVariants as causes
use Rattle.net_model.specs.declared.fault.NetKind.TheVariants.{M9}
use Rattle.net_draft.specs.declared.fault.DraftFault.{DraftFault}
use Rattle.net_draft.specs.declared.fault.DraftFault.TheVariants as answers
use Rattle.net_draft.specs.Faults.{IsFault}
use Rattle.net_draft.specs.Texts.{CurveText, Bucket, Stair, RateLatency, Gate, Listed}

-- a bucket is within all limits
abbrev pub KeepsBucket : ℚ → ℚ → Result SpecCurve CurveFault → Type 0
KeepsBucket burst rate (Ok made) = (¬ (OneNegative burst rate)) × (made ≡ bucket burst rate)
KeepsBucket burst rate (Err faults.Negative) = OneNegative burst rate
KeepsBucket burst rate (Err faults.ZeroPeriod) = ⊥
KeepsBucket burst rate (Err faults.NotRising) = ⊥
KeepsBucket burst rate (Err faults.NotContinuous) = ⊥
KeepsBucket burst rate (Err faults.NotZeroAtStart) = ⊥
KeepsBucket burst rate (Err (faults.Op limit)) = ⊥
KeepsBucket burst rate (Err faults.NoMemory) = Unit {0}

-- what each answer to a text says, in the words of the curves of a file
abbrev pub CurveAnswers : CurveText → Result SpecCurve CurveFault → Type 0
CurveAnswers (Bucket burst rate) = KeepsBucket burst rate
CurveAnswers (Stair packet period jitter) =
    KeepsCauses (jitter <ℚ zero_q) (period ≤ℚ zero_q) (stair (int (pos packet)) period jitter)
CurveAnswers (RateLatency rate latency) = KeepsCauses (OneNegative rate latency) ⊥ (rate_latency rate latency)
CurveAnswers (Gate rate cycle slot) = KeepsCauses (OneNegative rate slot) (NoSlot cycle slot) (gate rate cycle slot)
CurveAnswers (Listed pieces tail use_as) = KeepsListed pieces tail use_as

-- ---- faults
-- the limit that a fault is
abbrev pub limit_of : CurveFault → Option OverLimit
limit_of faults.Negative = None
limit_of faults.ZeroPeriod = None
limit_of faults.NotRising = None
limit_of faults.NotContinuous = None
limit_of faults.NotZeroAtStart = None
limit_of (faults.Op limit) = Some limit
limit_of faults.NoMemory = None

-- how a reader tells a fault of the text at a place, other than a limit
abbrev pub IsToldAs : CurveFault → List ℕ → DraftFault → Type 0
IsToldAs faults.Negative place e = IsFault (M9 causes.Negative) place e
IsToldAs faults.ZeroPeriod place e = IsFault (M9 causes.ZeroPeriod) place e
IsToldAs faults.NotRising place e = IsFault (M9 causes.NotRising) place e
IsToldAs faults.NotContinuous place e = IsFault (M9 causes.NotContinuous) place e
IsToldAs faults.NotZeroAtStart place e = IsFault (M9 causes.NotZeroAtStart) place e
IsToldAs (faults.Op limit) place e = ⊥
IsToldAs faults.NoMemory place e = e ≡ answers.NoMemory

-- ---- what was made
-- a curve was made, or the limit that it is over
abbrev pub IsMade : CurveText → Result SpecCurve OverLimit → Type 0
IsMade text (Ok made) = CurveAnswers text (Ok made)
IsMade text (Err limit) = CurveAnswers text (Err (faults.Op limit))

-- the curve of a text is over no limit
abbrev pub IsOverNone : CurveText → Type 0
IsOverNone text = (limit : OverLimit) → ¬ (IsMade text (Err limit))
