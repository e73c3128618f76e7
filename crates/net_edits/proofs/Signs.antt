-- What comparisons with 0 tell, and what is left of the causes of a refused curve.
use Rattle.std.proofs.Common.{◌≡◌, sym, subst, true, false}
use Rattle.std.specs.Prelude.{Result, Ok, Err}
use Rattle.std.specs.Ordering.{MatchOrdering}
use Rattle.std.specs.declared.cmp.Ordering.{Ordering}
use Rattle.std.specs.declared.cmp.Ordering.TheVariants.{Less}
use Rattle.rational.specs.Rational.{ℚ, ◌≤ℚ◌, ◌<ℚ◌, lt_q}
use Rattle.rational.proofs.Over.{lt_q_out, lt_q_in}
use Rattle.rational.proofs.MinMax.{lt_q_not}
use Rattle.rational.proofs.Laws.{le_of_not_lt}
use Rattle.upp_curve.specs.Curve.{SpecCurve}
use Rattle.min_plus.specs.Functions.{zero_q}
use Rattle.curve_library.specs.declared.fault.CurveFault.{CurveFault}
use Rattle.curve_library.specs.declared.fault.CurveFault.TheVariants.{Negative, ZeroPeriod, NotRising, NotContinuous, NotZeroAtStart, Op, NoMemory}
use Rattle.curve_library.specs.Causes.{KeepsOwnLimits, KeepsCauses}
use Rattle.rational.proofs.Compared.{not_less}

pub below_not : (r : Ordering) (x z : ℚ) → MatchOrdering r (x <ℚ z) (x ≡ z) (z <ℚ x) → (r ≡ Less → ⊥) → z ≡ zero_q
    → false ≡ lt_q x zero_q
below_not r x z h n e =
    let most : zero_q ≤ℚ x = subst (λ (y : ℚ). y ≤ℚ x) e (not_less r h n) in sym (lt_q_not x zero_q most)

pub above_not : (r : Ordering) (x z : ℚ) → MatchOrdering r (z <ℚ x) (z ≡ x) (x <ℚ z) → (r ≡ Less → ⊥) → z ≡ zero_q
    → false ≡ lt_q zero_q x
above_not r x z h n e =
    let most : x ≤ℚ zero_q = subst (λ (y : ℚ). x ≤ℚ y) e (not_less r h n) in sym (lt_q_not zero_q x most)

pub nonneg_of : (x : ℚ) → lt_q x zero_q ≡ false → zero_q ≤ℚ x
nonneg_of x e = le_of_not_lt (λ h. let t : lt_q x zero_q ≡ true = lt_q_out x zero_q h in let bad : ⊥ = cc in bad)

pub positive_of : (x : ℚ) → lt_q zero_q x ≡ true → zero_q <ℚ x
positive_of x e = lt_q_in zero_q x e

-- past the two causes there are the limits of the curve
pub own_of : (negative zero_period : Type 0) (c : SpecCurve) (r : Result SpecCurve CurveFault) → ¬ negative → ¬ zero_period
    → KeepsCauses negative zero_period c r → KeepsOwnLimits c r
own_of negative zero_period c (Ok made) n z h = h.1
own_of negative zero_period c (Err Negative) n z h = absurd (n h)
own_of negative zero_period c (Err ZeroPeriod) n z h = absurd (z h.1)
own_of negative zero_period c (Err NotRising) n z h = h
own_of negative zero_period c (Err NotContinuous) n z h = h
own_of negative zero_period c (Err NotZeroAtStart) n z h = h
own_of negative zero_period c (Err (Op limit)) n z h = h.1
own_of negative zero_period c (Err NoMemory) n z h = h.1
