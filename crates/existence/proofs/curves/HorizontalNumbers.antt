-- The two numbers of periods of a horizontal deviation, counted up from 0 until each is met or the call is too wide.
use Rattle.std.specs.Prelude.{◌≡◌, ◌≢◌, ℕ, zero, suc, ◌+◌, ◌<◌, ◌≤◌, ◌^◌, ◌⊎◌, pos}
use Rattle.std.proofs.Common.{arith, sym, subst, inl, inr}
use Rattle.std.proofs.lemmas.Bool.{cases_lt}
use Rattle.rational.specs.Rational.{int}
use Rattle.rational.specs.Extended.{Ext, ◌≤ₑ◌}
use Rattle.rational.specs.declared.Extended.TheVariants.{Fin}
use Rattle.rational.proofs.ExtendedOrder.{le_or_lt_ext, lt_le_ext, lt_ext_irrefl}
use Rattle.upp_curve.specs.Curve.{SpecCurve, value_at}
use Rattle.upp_curve.specs.Curves.{IsCurve}
use Rattle.upp_curve.specs.Steady.{steady, rate}
use Rattle.upp_limits.specs.declared.op_kind.OpKind.TheVariants.{Horizontal}
use Rattle.upp_limits.specs.Gauges.{gauge_at}
use Rattle.upp_limits.specs.Periods.{common_period, periods_after}
use Rattle.upp_limits.specs.Windows.{IsConstantFrom, IsLeast, Meets, Reaches}
use Rattle.curve_call.proofs.TailMoves.{rates_compared, not_same}
use Rattle.plain_operators.proofs.pointwise.LatticeAnswers.{slower_or_not}
use Rattle.curve_deviation.specs.Stages.{AreFinite, IsPast, IsFirst, settled}
use Rattle.curve_deviation.proofs.PeriodsFound.{level_constant, constant_level}
use Rattle.curve_deviation.proofs.WindowTimes.{few_within}

-- ---- the least number with P, where it is decided at each
count_up : (P : ℕ → Type 0) (n k : ℕ) → ((i : ℕ) → P i ⊎ ¬ (P i)) → P (k + n) → ((i : ℕ) → i < k → ¬ (P i)) → (j : ℕ) × IsLeast P j
count_up P zero k decided some below = let e : k + zero ≡ k = omega arith in (k, record { meets = subst P e some; least = below })
count_up P (suc n) k decided some below = elim (decided k) [
  | inl h ↦ (k, record { meets = h; least = below })
  | inr not ↦
      let e : k + suc n ≡ suc k + n = omega arith in
      count_up P n (suc k) decided (subst P e some) (λ i h met. elim (cases_lt i k) [
        | inl l ↦ below i l met
        | inr l ↦ let same : i ≡ k = omega (arith, h, l) in not (subst P same met)
      ])
]

-- ---- what is decided at each number
pub at_most_or : (v w : Ext) → (v ≤ₑ w) ⊎ ¬ (v ≤ₑ w)
at_most_or v w = elim (le_or_lt_ext v w) [ inl h ↦ inl h | inr l ↦ inr (λ h. lt_ext_irrefl w (lt_le_ext w v w l h)) ]

past_or : (P : Type 0) (n : ℕ) → P ⊎ ¬ P → IsPast P n ⊎ ¬ (IsPast P n)
past_or P n (inl h) = inl (inl h)
past_or P n (inr not) = elim (cases_lt n (2 ^ 120)) [
  | inl small ↦ inr (λ p. elim p [ inl h ↦ not h | inr over ↦ omega (arith, small, over) ])
  | inr over ↦ inl (inr (omega (arith, over)))
]

-- whether the rate is 0
pub level_or : (f : SpecCurve) → (rate f ≡ Fin (int (pos 0))) ⊎ (rate f ≢ Fin (int (pos 0)))
level_or f = elim (rates_compared (rate f) (Fin (int (pos 0)))) [
  | inl l ↦ inr (λ e. not_same (rate f) (Fin (int (pos 0))) e l)
  | inr (inl e) ↦ inl e
  | inr (inr l) ↦ inr (λ e. not_same (Fin (int (pos 0))) (rate f) (sym e) l)
]

constant_or : (f g : SpecCurve) → IsCurve f → IsCurve g → AreFinite f g → IsConstantFrom (value_at f) (steady f) ⊎ ¬ (IsConstantFrom (value_at f) (steady f))
constant_or f g F G both = elim (level_or f) [
  | inl e ↦ inl (level_constant f g F G both.first both.first_rises e)
  | inr not ↦ inr (λ h. not (constant_level f g F G both.first h))
]

meets_or : (f g : SpecCurve) (k : ℕ) → IsConstantFrom (value_at f) (steady f) ⊎ ¬ (IsConstantFrom (value_at f) (steady f)) → Meets Horizontal f g k ⊎ ¬ (Meets Horizontal f g k)
meets_or f g k (inl level) = inl (inl level)
meets_or f g k (inr not) = elim (slower_or_not (value_at g (steady g)) (value_at f (periods_after (steady f) k (common_period f g)))) [
  | inl h ↦ inl (inr h)
  | inr low ↦ inr (λ m. elim m [ inl level ↦ not level | inr h ↦ low h ])
]

reaches_or : (f g : SpecCurve) (k m : ℕ) → Reaches Horizontal f g k m ⊎ ¬ (Reaches Horizontal f g k m)
reaches_or f g k m = at_most_or (value_at f (settled f g k)) (value_at g (periods_after (settled f g k) m (common_period f g)))

-- ---- both numbers
-- after 2^114 periods the gauge is over the limit
wide_first : (f g : SpecCurve) → IsCurve f → IsCurve g → AreFinite f g → 2 ^ 120 ≤ gauge_at Horizontal f g (2 ^ 114 + 1) 0
wide_first f g F G both = elim (cases_lt (gauge_at Horizontal f g (2 ^ 114 + 1) 0) (2 ^ 120)) [
  | inl small ↦ let few = (few_within f g (2 ^ 114 + 1) 0 F G both.first both.second small).0 in absurd (omega (arith, few))
  | inr over ↦ omega (arith, over)
]

wide_second : (f g : SpecCurve) (k : ℕ) → IsCurve f → IsCurve g → AreFinite f g → 2 ^ 120 ≤ gauge_at Horizontal f g k (2 ^ 114 + 1)
wide_second f g k F G both = elim (cases_lt (gauge_at Horizontal f g k (2 ^ 114 + 1)) (2 ^ 120)) [
  | inl small ↦ let few = (few_within f g k (2 ^ 114 + 1) F G both.first both.second small).1 in absurd (omega (arith, few))
  | inr over ↦ omega (arith, over)
]

pub first_number : (f g : SpecCurve) → IsCurve f → IsCurve g → AreFinite f g → (j : ℕ) × IsFirst f g j
first_number f g F G both =
    let level = constant_or f g F G both in
    let (j, least) = count_up (λ k. IsPast (Meets Horizontal f g k) (gauge_at Horizontal f g k 0)) (2 ^ 114 + 1) 0 (λ k. past_or (Meets Horizontal f g k) (gauge_at Horizontal f g k 0) (meets_or f g k level))
    (inr (wide_first f g F G both)) (λ i h. absurd (omega (arith, h))) in
    (j, record { below = λ i h met. least.least i h (inl met); past = least.meets })

pub second_number : (f g : SpecCurve) (k : ℕ) → IsCurve f → IsCurve g → AreFinite f g → (m : ℕ) × IsLeast (λ i. IsPast (Reaches Horizontal f g k i) (gauge_at Horizontal f g k i)) m
second_number f g k F G both =
    count_up (λ i. IsPast (Reaches Horizontal f g k i) (gauge_at Horizontal f g k i)) (2 ^ 114 + 1) 0 (λ i. past_or (Reaches Horizontal f g k i) (gauge_at Horizontal f g k i) (reaches_or f g k i))
    (inr (wide_second f g k F G both)) (λ i h. absurd (omega (arith, h)))
