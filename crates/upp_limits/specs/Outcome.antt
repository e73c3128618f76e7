-- When a call on curves answers what, by the limits of its kind. Own choice.
use Rattle.std.specs.Prelude.{Result, Ok, Err}
use Rattle.upp_limits.specs.declared.op_kind.OpKind.{OpKind}
use Rattle.upp_limits.specs.declared.op_kind.OpFault.{OpFault}
use Rattle.upp_limits.specs.declared.op_kind.OpFault.TheVariants.{TooMany, TooWide, NoMemory}
use Rattle.upp_curve.specs.Curve.{SpecCurve}
use Rattle.upp_limits.specs.Gauges.{IsTooWide, IsTooMany}

-- the call is over neither limit
pub record IsWithin (op : OpKind) (f g : SpecCurve) : Type 0 where
  pub narrow : ¬ (IsTooWide op f g)
  pub few : ¬ (IsTooMany op f g)

abbrev pub IsCauseOf : OpKind → SpecCurve → SpecCurve → OpFault → Type 0
IsCauseOf op f g TooMany = IsTooMany op f g
IsCauseOf op f g TooWide = IsTooWide op f g
IsCauseOf op f g NoMemory = IsWithin op f g

-- TooMany and TooWide exactly where the call is over that limit; below both limits an answer, or want of memory
abbrev pub KeepsLimits : {A : Type 0} → OpKind → SpecCurve → SpecCurve → Result A OpFault → Type 0
KeepsLimits op f g (Ok answer) = IsWithin op f g
KeepsLimits op f g (Err fault) = IsCauseOf op f g fault
