-- What the closure of a curve answers, which is made by a fold of operators. Own choice.
use Rattle.std.specs.Prelude.{Result, Ok, Err}
use Rattle.rational.specs.Rational.{ℚ, ◌≤ℚ◌}
use Rattle.upp_curve.specs.Curve.{SpecCurve, value_at}
use Rattle.upp_curve.specs.Curves.{IsCurve}
use Rattle.min_plus.specs.Functions.{zero_q}
use Rattle.min_plus.specs.Convolution.{IsSubadditiveClosure}
use Rattle.upp_limits.specs.declared.own_limits.OverLimit.{OverLimit}
use Rattle.upp_limits.specs.declared.own_limits.OverLimit.TheVariants as limits
use Rattle.upp_limits.specs.declared.op_kind.OpFault.{OpFault}
use Rattle.upp_limits.specs.declared.op_kind.OpFault.TheVariants.{TooMany, TooWide, NoMemory}
use Rattle.subadd_closure.specs.Folds.{CloseAnswer}

-- the first operator of the fold that is over a limit is over this one
abbrev pub OverFold : SpecCurve → OverLimit → Type 0
OverFold f limits.TooMany = CloseAnswer f (Err TooMany)
OverFold f limits.TooWide = CloseAnswer f (Err TooWide)

-- a curve whose values are those of the closure, made by a fold that is over no limit
pub record IsClosureOf (f c : SpecCurve) : Type 0 where
  pub curve : IsCurve c
  pub value : (t : ℚ) → zero_q ≤ℚ t → IsSubadditiveClosure (value_at f) t (value_at c t)
  pub within : (limit : OverLimit) → OverFold f limit → ⊥

-- the closure, or the limit that the fold is over
abbrev pub Closes : SpecCurve → Result SpecCurve OverLimit → Type 0
Closes f (Ok c) = IsClosureOf f c
Closes f (Err limit) = OverFold f limit

-- the same of a call's answer, which may be want of memory
abbrev pub KeepsClosing : SpecCurve → Result SpecCurve OpFault → Type 0
KeepsClosing f (Ok c) = IsClosureOf f c
KeepsClosing f (Err TooMany) = OverFold f limits.TooMany
KeepsClosing f (Err TooWide) = OverFold f limits.TooWide
KeepsClosing f (Err NoMemory) = Unit {0}
