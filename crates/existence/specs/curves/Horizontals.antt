-- A horizontal deviation is a number, or is over a limit; it takes no memory. Own choice.
use Rattle.std.specs.Prelude.{Result}
use Rattle.rational.specs.Extended.{Ext}
use Rattle.min_plus.specs.Deviations.{IsHorizontalDeviation}
use Rattle.min_plus.specs.Functions.{IsFinite, IsRising}
use Rattle.upp_curve.specs.Curve.{SpecCurve, value_at}
use Rattle.upp_curve.specs.Curves.{IsCurve}
use Rattle.upp_limits.specs.declared.op_kind.OpKind.TheVariants.{Horizontal}
use Rattle.upp_limits.specs.declared.op_kind.OpFault.{OpFault}
use Rattle.net_cells.specs.Answers.{Deviates}

abbrev pub HorizontalsExist : Type 0
HorizontalsExist =
    (f g : SpecCurve) → IsCurve f → IsCurve g → IsFinite (value_at g) → IsRising (value_at f) → IsRising (value_at g)
    → (r : Result Ext OpFault) × Deviates Horizontal IsHorizontalDeviation f g r
