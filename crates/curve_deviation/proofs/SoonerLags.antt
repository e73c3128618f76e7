-- From when g is no lower than f is in the end it does not lie behind: the times before are enough.
use Rattle.std.specs.Prelude.{◌≡◌, ℕ, suc, ◌<◌, ◌≤◌, pos}
use Rattle.std.proofs.Common.{arith, sym, ap, ◌∙◌, subst, inl, inr}
use Rattle.std.proofs.lemmas.Bool.{cases_lt}
use Rattle.rational.specs.Rational.{ℚ, ◌-ℚ◌, ◌≤ℚ◌, ◌<ℚ◌, int}
use Rattle.rational.specs.Extended.{◌≤ₑ◌}
use Rattle.rational.specs.declared.Extended.TheVariants.{Fin}
use Rattle.rational.proofs.Linear.{with2}
use Rattle.rational.proofs.Laws.{le_or_lt, le_trans, le_of_lt, not_le_of_lt}
use Rattle.rational.proofs.ExtendedOrder.{le_ext_trans, lt_le_ext, lt_ext_irrefl}
use Rattle.upp_curve.specs.Curve.{SpecCurve, value_at}
use Rattle.upp_curve.specs.Curves.{IsCurve}
use Rattle.upp_curve.specs.Steady.{steady}
use Rattle.upp_curve.proofs.SteadyTimes.{steady_nonneg}
use Rattle.upp_limits.specs.Periods.{common_period}
use Rattle.curve_call.proofs.CurveTimes.{common_some}
use Rattle.curve_deviation.specs.declared.horizontals.Turn.{Turn}
use Rattle.curve_deviation.specs.Lags.{IsBehindAt, IsLongestLag}
use Rattle.curve_deviation.specs.Stages.{AreFinite, HasReached, settled, IsSettledAt, IsEnough}
use Rattle.curve_deviation.proofs.WindowTimes.{periods_low, none_after}

-- ---- what is enough
pub all_periods : (f g : SpecCurve) (first : ℕ) (t : ℚ) → t ≡ settled f g first → IsEnough f g first t
all_periods f g first t e = record { count = first; few = omega arith; time = e; reached = λ h. absurd (omega (arith, h)) }

pub fewer_enough : (f g : SpecCurve) (first k : ℕ) (last sooner : Turn) → k ≤ first → IsSettledAt f g first last → IsSettledAt f g k sooner → (k < first → HasReached k last.level f g 0) → IsEnough f g first sooner.time
fewer_enough f g first k last sooner few L S reached = record {
  count = k;
  few = few;
  time = S.time;
  reached = λ h.
      let level : Fin last.level ≡ value_at f (settled f g first) = sym L.level ∙ ap (value_at f) L.time in
      let time = none_after (settled f g k) (common_period f g) ∙ sym S.time in
      subst (λ x. x ≤ₑ value_at g sooner.time) level (subst (λ t. Fin last.level ≤ₑ value_at g t) time (reached h));
}

pub settled_nonneg : (f g : SpecCurve) (k : ℕ) → IsCurve f → IsCurve g → int (pos 0) ≤ℚ settled f g k
settled_nonneg f g k F G = le_trans (steady_nonneg f F) (periods_low (steady f) (common_period f g) (suc k) (common_some f g F G))

-- ---- the longest lag
pub sooner_lag : (f g : SpecCurve) (first : ℕ) (t q : ℚ) → IsCurve f → IsCurve g → AreFinite f g → IsEnough f g first t → IsLongestLag (λ s. s <ℚ t) (value_at f) (value_at g) q
    → IsLongestLag (λ s. s <ℚ settled f g first) (value_at f) (value_at g) q
sooner_lag f g first t q F G both E L = record { nonneg = L.nonneg; near = L.near; most = λ s u early b. elim (le_or_lt t s) [ inr l ↦ L.most s u l b | inl l ↦ late s u l early b ] }
  where
    low : int (pos 0) ≤ℚ t
    low = subst (λ x. int (pos 0) ≤ℚ x) (sym E.time) (settled_nonneg f g E.count F G)

    above : (s u : ℚ) → t ≤ℚ s → s <ℚ settled f g first → IsBehindAt (value_at f) (value_at g) s u → E.count < first → s <ℚ u → ⊥
    above s u l early b fewer more =
        let end = settled f g first in
        let x = lt_le_ext (value_at g u) (value_at f s) (value_at f end) b.below (both.first_rises s end b.first (le_of_lt early)) in
        let y = le_ext_trans (value_at f end) (value_at g t) (value_at g u) (E.reached fewer) (both.second_rises t u low (le_trans l (le_of_lt more))) in
        lt_ext_irrefl (value_at g u) (lt_le_ext (value_at g u) (value_at f end) (value_at g u) x y)

    late : (s u : ℚ) → t ≤ℚ s → s <ℚ settled f g first → IsBehindAt (value_at f) (value_at g) s u → u -ℚ s ≤ℚ q
    late s u l early b = elim (le_or_lt u s) [
      | inl k ↦ le_trans (with2 u s (λ c. omega (arith, c.le, c.lt, c.same))) L.nonneg
      | inr k ↦ elim (cases_lt E.count first) [
        | inl h ↦ absurd (above s u l early b h k)
        | inr h ↦
            let few = E.few in
            let same : E.count ≡ first = omega (arith, few, h) in
            absurd (not_le_of_lt (subst (λ x. s <ℚ x) (sym (E.time ∙ ap (settled f g) same)) early) l)
      ]
    ]
