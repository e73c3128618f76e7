-- A running supremum and a running infimum have answers that are not want of memory. Own choice.
use Rattle.min_plus.specs.Functions.{IsFinite, IsNonnegative}
use Rattle.upp_curve.specs.Curve.{SpecCurve, value_at}
use Rattle.upp_curve.specs.Curves.{IsCurve}
use Rattle.upp_limits.specs.declared.op_kind.OpKind.TheVariants.{RunSup, RunInf}
use Rattle.existence.specs.curves.Answered.{HasAnswer}
use Rattle.curve_call.specs.Calls.{Applies}

abbrev pub SupremaExist : Type 0
SupremaExist =
    (f : SpecCurve) → IsCurve f → IsFinite (value_at f) → IsNonnegative (value_at f) → HasAnswer (Applies RunSup f f)

abbrev pub InfimaExist : Type 0
InfimaExist =
    (f : SpecCurve) → IsCurve f → IsFinite (value_at f) → IsNonnegative (value_at f) → HasAnswer (Applies RunInf f f)
