-- What one call on curves answers. Own choice.
use Rattle.std.specs.Prelude.{Result, Ok, Err}
use Rattle.upp_limits.specs.declared.op_kind.OpKind.{OpKind}
use Rattle.upp_limits.specs.declared.op_kind.OpFault.{OpFault}
use Rattle.upp_curve.specs.Curve.{SpecCurve}
use Rattle.upp_limits.specs.Outcome.{IsWithin, IsCauseOf}
use Rattle.curve_call.specs.Answers.{IsMadeBy}

-- the call is over neither limit, and h is made by it
pub record IsApplied (op : OpKind) (f g h : SpecCurve) : Type 0 where
  pub within : IsWithin op f g
  pub made : IsMadeBy op f g h

-- the answer of one call: the curve that is made by it, or what it is refused for; want of memory only where it is
-- over neither limit
abbrev pub Applies : OpKind → SpecCurve → SpecCurve → Result SpecCurve OpFault → Type 0
Applies op f g (Ok h) = IsApplied op f g h
Applies op f g (Err fault) = IsCauseOf op f g fault

-- a call with one operand
abbrev pub AppliesTo : OpKind → SpecCurve → Result SpecCurve OpFault → Type 0
AppliesTo op f r = Applies op f f r
