-- When a call that builds a curve answers what. Own choice.
use Rattle.std.specs.Prelude.{◌≡◌, ◌⊎◌, Result, Ok, Err, MatchResult}
use Rattle.rational.specs.Rational.{ℚ, ◌≤ℚ◌, ◌<ℚ◌}
use Rattle.upp_curve.specs.Curve.{SpecCurve}
use Rattle.min_plus.specs.Functions.{zero_q}
use Rattle.upp_limits.specs.declared.own_limits.OverLimit.{OverLimit}
use Rattle.upp_limits.specs.OwnLimits.{IsOver, IsWithinOwn}
use Rattle.curve_library.specs.declared.fault.CurveFault.{CurveFault}
use Rattle.curve_library.specs.declared.fault.CurveFault.TheVariants.{Negative, ZeroPeriod, NotRising, NotContinuous, NotZeroAtStart, Op, NoMemory}

-- ---- limits alone: c where it is within them, a limit exactly where c is over it, and want of memory only within them
abbrev pub KeepsOwnLimits : SpecCurve → Result SpecCurve CurveFault → Type 0
KeepsOwnLimits c (Ok made) = (made ≡ c) × IsWithinOwn c
KeepsOwnLimits c (Err Negative) = ⊥
KeepsOwnLimits c (Err ZeroPeriod) = ⊥
KeepsOwnLimits c (Err NotRising) = ⊥
KeepsOwnLimits c (Err NotContinuous) = ⊥
KeepsOwnLimits c (Err NotZeroAtStart) = ⊥
KeepsOwnLimits c (Err (Op limit)) = IsOver c limit
KeepsOwnLimits c (Err NoMemory) = IsWithinOwn c

-- ---- refusals of what was given
abbrev pub OneNegative : ℚ → ℚ → Type 0
OneNegative x y = (x <ℚ zero_q) ⊎ (y <ℚ zero_q)

-- a cycle without length, or a slot that is 0 or longer than its cycle
abbrev pub NoSlot : ℚ → ℚ → Type 0
NoSlot cycle slot = (cycle ≤ℚ zero_q) ⊎ ((slot ≡ zero_q) ⊎ (cycle <ℚ slot))

-- neither cause is there
pub record Passes (negative zero_period : Type 0) : Type 0 where
  pub nonneg : ¬ negative
  pub period : ¬ zero_period

-- what each answer says: the two causes, and past them the limits of c
abbrev pub KeepsCauses : Type 0 → Type 0 → SpecCurve → Result SpecCurve CurveFault → Type 0
KeepsCauses negative zero_period c (Ok made) = Passes negative zero_period × KeepsOwnLimits c (Ok made)
KeepsCauses negative zero_period c (Err Negative) = negative
KeepsCauses negative zero_period c (Err ZeroPeriod) = (¬ negative) × zero_period
KeepsCauses negative zero_period c (Err NotRising) = ⊥
KeepsCauses negative zero_period c (Err NotContinuous) = ⊥
KeepsCauses negative zero_period c (Err NotZeroAtStart) = ⊥
KeepsCauses negative zero_period c (Err (Op limit)) = Passes negative zero_period × IsOver c limit
KeepsCauses negative zero_period c (Err NoMemory) = Passes negative zero_period × IsWithinOwn c

-- which answer comes when: the first of the causes that is there
pub record AnswersFirst (negative zero_period : Type 0) (c : SpecCurve)
    (answer : Result SpecCurve CurveFault) : Type 0 where
  pub below : negative → answer ≡ Err Negative
  pub empty : ¬ negative → zero_period → answer ≡ Err ZeroPeriod
  pub over : (limit : OverLimit) → Passes negative zero_period → IsOver c limit → answer ≡ Err (Op limit)
  pub within : Passes negative zero_period → IsWithinOwn c
      → MatchResult answer (λ made. made ≡ c) (λ fault. fault ≡ NoMemory)
