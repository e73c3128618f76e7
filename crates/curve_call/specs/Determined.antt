-- When the answer of calls is determined: want of memory apart, there is one. Own choice.
use Rattle.std.specs.Prelude.{◌≡◌, Result}
use Rattle.outcomes.specs.Calls.{IsDeterminedBut}
use Rattle.upp_limits.specs.declared.op_kind.OpKind.{OpKind}
use Rattle.upp_limits.specs.declared.op_kind.OpFault.{OpFault}
use Rattle.upp_limits.specs.declared.op_kind.OpFault.TheVariants.{TooMany, TooWide, NoMemory}
use Rattle.upp_curve.specs.Curve.{SpecCurve}
use Rattle.upp_limits.specs.Outcome.{IsWithin, IsCauseOf}
use Rattle.curve_call.specs.Answers.{IsMadeBy}
use Rattle.curve_call.specs.Calls.{Applies}

-- two answers that P allows are one, where neither is want of memory
abbrev pub IsDetermined : {A : Type 0} → (Result A OpFault → Type 0) → Type 0
IsDetermined P = IsDeterminedBut NoMemory P

-- of calls on a curve, for each curve
abbrev pub AreDetermined : (SpecCurve → Result SpecCurve OpFault → Type 0) → Type 0
AreDetermined Q = (c : SpecCurve) → IsDetermined (Q c)

-- one call makes at most one curve, and what it answers is determined: a curve, too many and too wide exclude each
-- other; want of memory too excludes the two limits
pub record AppliesIsDetermined : Type 0 where
  pub curve : (op : OpKind) (f g h k : SpecCurve) → IsMadeBy op f g h → IsMadeBy op f g k → h ≡ k
  pub limits : (op : OpKind) (f g : SpecCurve) → IsCauseOf op f g TooMany → IsCauseOf op f g TooWide → ⊥
  pub many : (op : OpKind) (f g : SpecCurve) → IsWithin op f g → IsCauseOf op f g TooMany → ⊥
  pub wide : (op : OpKind) (f g : SpecCurve) → IsWithin op f g → IsCauseOf op f g TooWide → ⊥
  pub answer : (op : OpKind) (f g : SpecCurve) → IsDetermined (Applies op f g)
