-- From what each answer says to which answer comes when.
use Rattle.std.specs.Prelude.{◌≢◌, ◌≤◌, ◌^◌, Result, Ok, Err, IfOk}
use Rattle.std.proofs.Common.{arith, sym, ap, refl, subst}
use Rattle.upp_curve.specs.Curve.{SpecCurve}
use Rattle.upp_limits.specs.Limits.{own_tally}
use Rattle.upp_limits.specs.declared.own_limits.OverLimit.{OverLimit}
use Rattle.upp_limits.specs.declared.own_limits.OverLimit.TheVariants.{TooMany, TooWide}
use Rattle.upp_limits.specs.OwnLimits.{IsOver, IsWithinOwn}
use Rattle.upp_limits.proofs.OneLimit.{one_limit}
use Rattle.curve_library.specs.declared.fault.CurveFault.{CurveFault}
use Rattle.curve_library.specs.declared.fault.CurveFault.TheVariants.{Negative, ZeroPeriod, NotRising, NotContinuous, NotZeroAtStart, Op, NoMemory}
use Rattle.curve_library.specs.Causes.{KeepsOwnLimits, Passes, KeepsCauses, AnswersFirst}

-- no curve is over a limit and within both
pub over_within : (c : SpecCurve) (limit : OverLimit) → IsOver c limit → IsWithinOwn c → ⊥
over_within c TooWide h w = let n = w.narrow in omega (arith, h, n)
over_within c TooMany h w = let f = w.few in let m = h.1 in omega (arith, f, m)

-- past the causes the limits decide
pub causes_of : (N Z : Type 0) (c : SpecCurve) (r : Result SpecCurve CurveFault) → Passes N Z → KeepsOwnLimits c r → KeepsCauses N Z c r
causes_of N Z c (Ok made) p h = (p, h)
causes_of N Z c (Err Negative) p h = absurd h
causes_of N Z c (Err ZeroPeriod) p h = absurd h
causes_of N Z c (Err NotRising) p h = absurd h
causes_of N Z c (Err NotContinuous) p h = absurd h
causes_of N Z c (Err NotZeroAtStart) p h = absurd h
causes_of N Z c (Err (Op limit)) p h = (p, h)
causes_of N Z c (Err NoMemory) p h = (p, h)

pub first_of : (N Z : Type 0) (c : SpecCurve) (r : Result SpecCurve CurveFault) → KeepsCauses N Z c r → AnswersFirst N Z c r
first_of N Z c (Ok made) h = record {
  below = λ n. absurd (h.0.nonneg n);
  empty = λ n z. absurd (h.0.period z);
  over = λ limit p o. absurd (over_within c limit o h.1.1);
  within = λ p w. h.1.0;
}
first_of N Z c (Err Negative) h = record {
  below = λ n. refl;
  empty = λ n z. absurd (n h);
  over = λ limit p o. absurd (p.nonneg h);
  within = λ p w. absurd (p.nonneg h);
}
first_of N Z c (Err ZeroPeriod) h = record {
  below = λ n. absurd (h.0 n);
  empty = λ n z. refl;
  over = λ limit p o. absurd (p.period h.1);
  within = λ p w. absurd (p.period h.1);
}
first_of N Z c (Err NotRising) h = absurd h
first_of N Z c (Err NotContinuous) h = absurd h
first_of N Z c (Err NotZeroAtStart) h = absurd h
first_of N Z c (Err (Op limit)) h = record {
  below = λ n. absurd (h.0.nonneg n);
  empty = λ n z. absurd (h.0.period z);
  over = λ other p o. ap (λ l. let e : Result SpecCurve CurveFault = Err (Op l) in e) (one_limit c limit other h.1 o);
  within = λ p w. absurd (over_within c limit h.1 w);
}
first_of N Z c (Err NoMemory) h = record {
  below = λ n. absurd (h.0.nonneg n);
  empty = λ n z. absurd (h.0.period z);
  over = λ limit p o. absurd (over_within c limit o h.1);
  within = λ p w. refl;
}

-- what holds of c holds of an answer
pub made_of : (N Z : Type 0) (c : SpecCurve) (r : Result SpecCurve CurveFault) (P : SpecCurve → Type 0) → KeepsCauses N Z c r → (Passes N Z → P c) → IfOk r P
made_of N Z c (Ok made) P h f = subst P (sym h.1.0) (f h.0)
made_of N Z c (Err fault) P h f = tt

-- a curve of few pieces is never too many
pub never_many : (N Z : Type 0) (c : SpecCurve) (r : Result SpecCurve CurveFault) → KeepsCauses N Z c r → (Passes N Z → own_tally c ≤ 2 ^ 20) → r ≢ Err (Op TooMany)
never_many N Z c (Ok made) h f e = cc
never_many N Z c (Err Negative) h f e = cc
never_many N Z c (Err ZeroPeriod) h f e = cc
never_many N Z c (Err NotRising) h f e = cc
never_many N Z c (Err NotContinuous) h f e = cc
never_many N Z c (Err NotZeroAtStart) h f e = cc
never_many N Z c (Err (Op TooWide)) h f e = cc
never_many N Z c (Err (Op TooMany)) h f e = let m = h.1.1 in let few = f h.0 in absurd (omega (arith, m, few))
never_many N Z c (Err NoMemory) h f e = cc
