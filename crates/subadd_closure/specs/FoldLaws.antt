-- What the fold answers.
use Rattle.std.specs.Prelude.{Ok}
use Rattle.rational.specs.Rational.{ℚ, ◌≤ℚ◌}
use Rattle.upp_curve.specs.Curve.{SpecCurve, value_at}
use Rattle.min_plus.specs.Functions.{zero_q, IsFinite, IsNonnegative}
use Rattle.upp_curve.specs.Normal.{IsNormal}
use Rattle.min_plus.specs.Convolution.{IsSubadditiveClosure}
use Rattle.curve_call.specs.Determined.{IsDetermined}
use Rattle.min_plus.specs.closure_laws.Star.{AreStars}
use Rattle.subadd_closure.specs.CurveParts.{part_value}
use Rattle.subadd_closure.specs.declared.part.Part.{Part}
use Rattle.subadd_closure.specs.PartLaws.{IsPart}
use Rattle.subadd_closure.specs.Folds.{PartAnswer, CloseAnswer}

-- what is answered for a part is its star
abbrev pub PartAnswerIsStar : Type 0
PartAnswerIsStar = (f : SpecCurve) (p : Part) (c : SpecCurve) → IsPart p → PartAnswer f p (Ok c)
    → AreStars (part_value p) (value_at c)

-- what is answered for a finite curve that is nowhere below 0 is its closure
abbrev pub CloseAnswerIsClosure : Type 0
CloseAnswerIsClosure = (f h : SpecCurve) (t : ℚ) → IsNormal f → IsFinite (value_at f) → IsNonnegative (value_at f)
    → CloseAnswer f (Ok h) → zero_q ≤ℚ t → IsSubadditiveClosure (value_at f) t (value_at h t)

-- want of memory apart there is one answer
abbrev pub CloseAnswerIsDetermined : Type 0
CloseAnswerIsDetermined = (f : SpecCurve) → IsDetermined (CloseAnswer f)
