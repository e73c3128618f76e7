-- What is answered to the text of a curve, other than a limit, tells that its curve is over none.
use Rattle.std.proofs.Common.{◌≡◌, Option, Some, None, Ok, Err, sym, ◌∙◌}
use Rattle.upp_curve.specs.Curve.{SpecCurve}
use Rattle.upp_limits.specs.declared.own_limits.OverLimit.{OverLimit}
use Rattle.curve_library.specs.declared.fault.CurveFault.{CurveFault}
use Rattle.curve_library.specs.declared.fault.CurveFault.TheVariants as faults
use Rattle.curve_library.proofs.Answering.{over_within}
use Rattle.net_model.specs.declared.fault.CurveRefusal.{CurveRefusal}
use Rattle.net_model.specs.declared.fault.CurveRefusal.TheVariants as causes
use Rattle.net_draft.specs.Made.{CurveAnswers, IsMade, IsOverNone, limit_of}
use Rattle.net_draft.specs.Refusals.{refusal_of}
use Rattle.net_draft.specs.Texts.{CurveText, Bucket, Stair, RateLatency, Gate, Listed}
use Rattle.net_draft.proofs.Told.{answers_tell}

pub made_or_over : (text : CurveText) (a : SpecCurve) (limit : OverLimit) → IsMade text (Ok a) → IsMade text (Err limit) → ⊥
made_or_over (Bucket burst rate) a limit g h = h
made_or_over (Stair packet period jitter) a limit g h = over_within _ limit h.1 g.1.1
made_or_over (RateLatency rate latency) a limit g h = over_within _ limit h.1 g.1.1
made_or_over (Gate rate cycle slot) a limit g h = over_within _ limit h.1 g.1.1
made_or_over (Listed pieces tail use_as) a limit g h = over_within _ limit h.1 g.1.1

-- want of memory comes only within the limits
pub wanting_is_over_none : (text : CurveText) → CurveAnswers text (Err faults.NoMemory) → IsOverNone text
wanting_is_over_none (Bucket burst rate) g limit h = h
wanting_is_over_none (Stair packet period jitter) g limit h = over_within _ limit h.1 g.1
wanting_is_over_none (RateLatency rate latency) g limit h = over_within _ limit h.1 g.1
wanting_is_over_none (Gate rate cycle slot) g limit h = over_within _ limit h.1 g.1
wanting_is_over_none (Listed pieces tail use_as) g limit h = over_within _ limit h.1 g.1

apart : (r : CurveRefusal) → (let o : Option CurveRefusal = None in o) ≡ Some r → ⊥
apart r h = cc

-- what is refused for another cause is over none
pub refused_is_over_none : (text : CurveText) (r : CurveRefusal) → refusal_of text ≡ Some r → IsOverNone text
refused_is_over_none text r told limit h = apart r (sym (answers_tell text (Err (faults.Op limit)) h) ∙ told)

-- so a fault that is no limit
pub told_is_over_none : (text : CurveText) (f : CurveFault) → limit_of f ≡ None → CurveAnswers text (Err f) → IsOverNone text
told_is_over_none text faults.Negative n h = refused_is_over_none text causes.Negative (answers_tell text (Err faults.Negative) h)
told_is_over_none text faults.ZeroPeriod n h = refused_is_over_none text causes.ZeroPeriod (answers_tell text (Err faults.ZeroPeriod) h)
told_is_over_none text faults.NotRising n h = refused_is_over_none text causes.NotRising (answers_tell text (Err faults.NotRising) h)
told_is_over_none text faults.NotContinuous n h = refused_is_over_none text causes.NotContinuous (answers_tell text (Err faults.NotContinuous) h)
told_is_over_none text faults.NotZeroAtStart n h = refused_is_over_none text causes.NotZeroAtStart (answers_tell text (Err faults.NotZeroAtStart) h)
told_is_over_none text (faults.Op l) n h = let e : Some l ≡ None = n in cc
told_is_over_none text faults.NoMemory n h = wanting_is_over_none text h
