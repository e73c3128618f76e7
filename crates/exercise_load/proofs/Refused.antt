-- A curve that is within the limits is refused only for want of memory.
use Rattle.std.proofs.Common.{◌≡◌, ℕ, pos, Err, refl, subst, inl, inr}
use native.Mathlib.Nat.{not-le_of_lt}
use Rattle.rational.specs.Rational.{ℚ, ◌<ℚ◌, ◌≤ℚ◌, int}
use Rattle.rational.proofs.Integers.{nat_nonneg, nat_lt}
use Rattle.rational.proofs.Laws.{le_lt_trans, lt_le_trans, lt_irrefl}
use Rattle.min_plus.specs.Functions.{zero_q}
use Rattle.upp_curve.specs.Curve.{SpecCurve}
use Rattle.upp_curve.specs.Kinds.{rate_latency, stair}
use Rattle.upp_limits.specs.declared.own_limits.OverLimit.TheVariants.{TooMany, TooWide}
use Rattle.upp_limits.specs.OwnLimits.{IsWithinOwn}
use Rattle.curve_library.specs.Causes.{KeepsCauses, OneNegative}
use Rattle.curve_library.specs.declared.fault.CurveFault.{CurveFault}
use Rattle.curve_library.specs.declared.fault.CurveFault.TheVariants.{Negative, ZeroPeriod, NotRising, NotContinuous, NotZeroAtStart, Op, NoMemory}
use Rattle.exercise_load.specs.declared.drawn.DrawnFlow.{DrawnFlow}
use Rattle.exercise_load.specs.Bounds.{IsDrawn}
use Rattle.exercise_load.specs.Workloads.{whole}
use Rattle.exercise_load.proofs.DrawnAre.{some_period}
use Rattle.exercise_load.proofs.Narrow.{service_is_narrow, arrival_is_narrow}

only_memory : (negative zero_period : Type 0) (c : SpecCurve) (fault : CurveFault) → ¬ negative → ¬ zero_period
    → IsWithinOwn c → KeepsCauses negative zero_period c (Err fault) → fault ≡ NoMemory
only_memory negative zero_period c Negative n z w h = absurd (n h)
only_memory negative zero_period c ZeroPeriod n z w h = absurd (z h.1)
only_memory negative zero_period c NotRising n z w h = absurd h
only_memory negative zero_period c NotContinuous n z w h = absurd h
only_memory negative zero_period c NotZeroAtStart n z w h = absurd h
only_memory negative zero_period c (Op TooWide) n z w h = absurd (not-le_of_lt w.narrow h.1)
only_memory negative zero_period c (Op TooMany) n z w h = absurd (not-le_of_lt h.1.1 w.few)
only_memory negative zero_period c NoMemory n z w h = refl

not_negative : (n : ℕ) → ¬ (int (pos n) <ℚ zero_q)
not_negative n h = lt_irrefl zero_q (le_lt_trans (nat_nonneg n) h)

neither_negative : (m n : ℕ) → ¬ (OneNegative (int (pos m)) (int (pos n)))
neither_negative m n (inl h) = not_negative m h
neither_negative m n (inr h) = not_negative n h

-- ---- of a workload
pub service_refused : (rate latency : ℚ) (fault : CurveFault) → rate ≡ whole 100 → latency ≡ whole 10
    → KeepsCauses (OneNegative rate latency) ⊥ (rate_latency rate latency) (Err fault) → fault ≡ NoMemory
service_refused rate latency fault e f h =
    let P : ℚ → ℚ → Type 0 = λ r l. KeepsCauses (OneNegative r l) ⊥ (rate_latency r l) (Err fault) in
    let first : P (whole 100) latency = subst (λ r. P r latency) e h in
    only_memory (OneNegative (whole 100) (whole 10)) ⊥ (rate_latency (whole 100) (whole 10)) fault
    (neither_negative 100 10) (λ none. none) service_is_narrow (subst (λ l. P (whole 100) l) f first)

pub arrival_refused : (f : DrawnFlow) (period jitter : ℚ) (fault : CurveFault) → IsDrawn f → period ≡ whole f.period
    → jitter ≡ zero_q
    → KeepsCauses (jitter <ℚ zero_q) (period ≤ℚ zero_q) (stair (whole f.packet) period jitter) (Err fault)
    → fault ≡ NoMemory
arrival_refused f period jitter fault own e z h =
    let P : ℚ → ℚ → Type 0 =
    λ p j. KeepsCauses (j <ℚ zero_q) (p ≤ℚ zero_q) (stair (whole f.packet) p j) (Err fault) in
    let first : P (whole f.period) jitter = subst (λ p. P p jitter) e h in
    only_memory (zero_q <ℚ zero_q) (whole f.period ≤ℚ zero_q) (stair (whole f.packet) (whole f.period) zero_q) fault
    (lt_irrefl zero_q) (λ none. lt_irrefl zero_q (lt_le_trans (nat_lt 0 f.period (some_period f own)) none))
    (arrival_is_narrow f own) (subst (λ j. P (whole f.period) j) z first)
