-- What first in, first out leaves of a service has an answer that is not want of memory: the operands and the wait are
-- those that `fifo_left` takes. Own choice.
use Rattle.rational.specs.Extended.{Ext}
use Rattle.min_plus.specs.Deviations.{IsHorizontalDeviation}
use Rattle.min_plus.specs.Functions.{IsFinite, IsRising, IsNonnegative}
use Rattle.upp_curve.specs.Curve.{SpecCurve, value_at}
use Rattle.upp_curve.specs.Curves.{IsCurve}
use Rattle.upp_limits.specs.declared.op_kind.OpKind.TheVariants.{FifoLeft}
use Rattle.existence.specs.curves.Answered.{HasAnswer}
use Rattle.curve_call.specs.Calls.{Applies}

abbrev pub LeftOversExist : Type 0
LeftOversExist =
    (x : Ext) (f g : SpecCurve) → IsCurve f → IsCurve g → IsFinite (value_at f) → IsRising (value_at f)
    → IsNonnegative (value_at f) → IsHorizontalDeviation (value_at g) (value_at f) x → HasAnswer (Applies (FifoLeft x) f g)
