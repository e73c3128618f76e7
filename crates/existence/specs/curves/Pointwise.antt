-- Each call has an answer that is not want of memory. Own choice.
use Rattle.rational.specs.Rational.{ℚ}
use Rattle.rational.specs.Extended.{Ext}
use Rattle.upp_curve.specs.Curve.{SpecCurve, value_at}
use Rattle.upp_curve.specs.Curves.{IsCurve}
use Rattle.upp_limits.specs.declared.op_kind.OpKind.TheVariants.{Sum, Min, Max, PosDiff, PosMinus, Scale, Shift}
use Rattle.min_plus.specs.Functions.{IsFinite}
use Rattle.existence.specs.curves.Answered.{HasAnswer}
use Rattle.plain_operators.specs.pointwise.Shifting.{IsAhead}
use Rattle.curve_call.specs.Calls.{Applies}

pub record AnswersExist : Type 0 where
  pub sum : (f g : SpecCurve) → IsCurve f → IsCurve g → HasAnswer (Applies Sum f g)
  pub min : (f g : SpecCurve) → IsCurve f → IsCurve g → HasAnswer (Applies Min f g)
  pub max : (f g : SpecCurve) → IsCurve f → IsCurve g → HasAnswer (Applies Max f g)
  pub pos_diff : (f g : SpecCurve) → IsCurve f → IsCurve g → IsFinite (value_at f) → HasAnswer (Applies PosDiff f g)
  pub pos_minus : (l : ℚ) (f : SpecCurve) → IsCurve f → IsFinite (value_at f) → HasAnswer (Applies (PosMinus l) f f)
  pub scale : (q : ℚ) (f : SpecCurve) → IsCurve f → HasAnswer (Applies (Scale q) f f)
  pub shift : (x : Ext) (f : SpecCurve) → IsAhead x → IsCurve f → HasAnswer (Applies (Shift x) f f)
