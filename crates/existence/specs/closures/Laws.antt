-- The fold that makes the closure of a curve has an answer that is not want of memory. Own choice.
use Rattle.upp_curve.specs.Curve.{SpecCurve, value_at}
use Rattle.upp_curve.specs.Curves.{IsCurve}
use Rattle.min_plus.specs.Functions.{IsFinite, IsNonnegative}
use Rattle.subadd_closure.specs.Folds.{CloseAnswer}
use Rattle.existence.specs.curves.Answered.{HasAnswer}

abbrev pub ClosuresExist : Type 0
ClosuresExist = (f : SpecCurve) → IsCurve f → IsFinite (value_at f) → IsNonnegative (value_at f) → HasAnswer (CloseAnswer f)
