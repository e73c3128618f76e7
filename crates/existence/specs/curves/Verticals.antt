-- A deviation is a number, or is over a limit; it takes no memory. Own choice.
use Rattle.std.specs.Prelude.{Result}
use Rattle.rational.specs.Extended.{Ext}
use Rattle.min_plus.specs.Deviations.{IsVerticalDeviation}
use Rattle.min_plus.specs.Functions.{IsFinite}
use Rattle.upp_curve.specs.Curve.{SpecCurve, value_at}
use Rattle.upp_curve.specs.Curves.{IsCurve}
use Rattle.upp_limits.specs.declared.op_kind.OpKind.TheVariants.{Vertical}
use Rattle.upp_limits.specs.declared.op_kind.OpFault.{OpFault}
use Rattle.net_cells.specs.Answers.{Deviates}

abbrev pub VerticalsExist : Type 0
VerticalsExist =
    (f g : SpecCurve) → IsCurve f → IsCurve g → IsFinite (value_at g)
    → (r : Result Ext OpFault) × Deviates Vertical IsVerticalDeviation f g r
