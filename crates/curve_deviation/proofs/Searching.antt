-- What is looked for stays met once it is met; the search by doubling and halving.
use Rattle.std.specs.Prelude.{◌≡◌, ℕ, suc, ◌+◌, ◌-◌, ◌*◌, ◌<◌, ◌≤◌, ◌^◌, ◌/◌, pos}
use Rattle.std.proofs.Common.{arith, sym, ap, ◌∙◌, subst}
use Rattle.rational.specs.Rational.{ℚ, ◌-ℚ◌, ◌*ℚ◌, ◌≤ℚ◌, ◌<ℚ◌, int}
use Rattle.rational.specs.Extended.{◌≤ₑ◌, ◌<ₑ◌}
use Rattle.rational.specs.declared.Extended.TheVariants.{Fin}
use Rattle.rational.proofs.Linear.{with3}
use Rattle.rational.proofs.Laws.{le_trans, le_of_lt, lt_le_trans, lt_irrefl, mul_le_mul_right}
use Rattle.rational.proofs.Integers.{nat_le}
use Rattle.rational.proofs.ExtendedOrder.{le_ext_trans, lt_le_ext}
use Rattle.upp_curve.specs.Curve.{SpecCurve, value_at}
use Rattle.upp_curve.specs.Curves.{IsCurve}
use Rattle.upp_curve.specs.Steady.{steady}
use Rattle.upp_limits.specs.Periods.{common_period, periods_after}
use Rattle.curve_deviation.specs.declared.search.Stage.{Stage}
use Rattle.curve_deviation.specs.declared.search.Stage.TheVariants.{First, Second}
use Rattle.curve_deviation.specs.Stages.{AreFinite, HasLeft, HasReached, settled, Meets, stage_gauge, IsBefore, IsPast}
use Rattle.curve_deviation.proofs.WindowTimes.{WindowTimes, periods_low, few_within, twice_is}
use Rattle.upp_limits.specs.Limits.{Sizes}
use Rattle.upp_curve.proofs.SteadyTimes.{steady_nonneg}
use Rattle.curve_call.proofs.CurveTimes.{common_some}

-- more periods are later
pub later_periods : (T d : ℚ) (i k : ℕ) → int (pos 0) <ℚ d → i ≤ k → periods_after T i d ≤ℚ periods_after T k d
later_periods T d i k some h =
    let m = mul_le_mul_right d (le_of_lt some) (nat_le i k h) in
    let x = int (pos i) *ℚ d in
    let y = int (pos k) *ℚ d in
    with3 T x y (λ c. omega (arith, c.le, c.lt, c.same))

-- ---- what is met stays met
pub stays_met : (stage : Stage) (f g : SpecCurve) (i k : ℕ) → IsCurve f → IsCurve g → AreFinite f g → i ≤ k → Meets stage f g i → Meets stage f g k
stays_met (First level) f g i k F G both h met =
    let d = common_period f g in
    let T = steady f in
    let some = common_some f g F G in
    let low = le_trans (steady_nonneg f F) (periods_low T d i some) in
    lt_le_ext (Fin level) (value_at f (periods_after T i d)) (value_at f (periods_after T k d)) met (both.first_rises (periods_after T i d) (periods_after T k d) low (later_periods T d i k some h))
stays_met (Second first level) f g i k F G both h met =
    let d = common_period f g in
    let T = settled f g first in
    let some = common_some f g F G in
    let low = le_trans (le_trans (steady_nonneg f F) (periods_low (steady f) d (suc first) some)) (periods_low T d i some) in
    le_ext_trans (Fin level) (value_at g (periods_after T i d)) (value_at g (periods_after T k d)) met (both.second_rises (periods_after T i d) (periods_after T k d) low (later_periods T d i k some h))

pub unmet_before : (stage : Stage) (f g : SpecCurve) (k : ℕ) → IsCurve f → IsCurve g → AreFinite f g → ¬ (Meets stage f g k) → (i : ℕ) → i ≤ k → ¬ (Meets stage f g i)
unmet_before stage f g k F G both unmet i h met = unmet (stays_met stage f g i k F G both h met)

-- ---- within the limit there are few periods
pub few_before : (stage : Stage) (f g : SpecCurve) (k : ℕ) → IsCurve f → IsCurve g → AreFinite f g → stage_gauge stage f g k < 2 ^ 120 → k ≤ 2 ^ 114
few_before (First level) f g k F G both small = (few_within f g k 0 F G both.first both.second small).0
few_before (Second first level) f g k F G both small = (few_within f g first k F G both.first both.second small).1

-- ---- the halving
pub record IsHalved (stage : Stage) (f g : SpecCurve) (low width : ℕ) : Type 0 where
  pub some : 1 ≤ width
  pub few : low + width ≤ 2 ^ 116
  pub below : (i : ℕ) → i < low → ¬ (Meets stage f g i)
  pub past : IsPast (Meets stage f g (low + width - 1)) (stage_gauge stage f g (low + width - 1))

pub upper_half : (stage : Stage) (f g : SpecCurve) (low width half : ℕ) → IsCurve f → IsCurve g → AreFinite f g → half ≡ width / 2 → 1 < width → IsHalved stage f g low width
    → IsBefore (Meets stage f g (low + half - 1)) (stage_gauge stage f g (low + half - 1)) → IsHalved stage f g (low + half) (width - half)
upper_half stage f g low width half F G both e more H before =
    let few = H.few in
    let same : low + half + (width - half) - 1 ≡ low + width - 1 = omega (arith, e, more) in
    record {
      some = omega (arith, e, more);
      few = omega (arith, e, more, few);
      below = λ i h. unmet_before stage f g (low + half - 1) F G both before.unmet i (omega (arith, h));
      past = subst (λ n. IsPast (Meets stage f g n) (stage_gauge stage f g n)) (sym same) H.past;
    }

-- ---- what is read decides
pub left_is : (z : Sizes) (f g : SpecCurve) (k : ℕ) (level end d time v : ℚ) → d ≡ common_period f g → WindowTimes z f g k 0 end d → time ≡ end -ℚ d -ℚ d → value_at f time ≡ Fin v
    → (level <ℚ v → HasLeft level f g k) × (v ≤ℚ level → ¬ (HasLeft level f g k))
left_is z f g k level end d time v p W e is =
    let at = e ∙ twice_is z f g k end d p W in
    let here : value_at f (periods_after (steady f) k (common_period f g)) ≡ Fin v = sym (ap (value_at f) at) ∙ is in (
      λ h. subst (λ x. Fin level <ₑ x) (sym here) h,
      λ h left. lt_irrefl level (lt_le_trans (subst (λ x. Fin level <ₑ x) here left) h),
    )

pub reached_is : (z : Sizes) (f g : SpecCurve) (first k : ℕ) (level end d time v : ℚ) → WindowTimes z f g first k end d → time ≡ end -ℚ d → value_at g time ≡ Fin v
    → (level ≤ℚ v → HasReached first level f g k) × (v <ℚ level → ¬ (HasReached first level f g k))
reached_is z f g first k level end d time v W e is =
    let at = e ∙ W.is in
    let here : value_at g (periods_after (settled f g first) k (common_period f g)) ≡ Fin v = sym (ap (value_at g) at) ∙ is in (
      λ h. subst (λ x. Fin level ≤ₑ x) (sym here) h,
      λ h reach. lt_irrefl v (lt_le_trans h (subst (λ x. Fin level ≤ₑ x) here reach)),
    )

-- ---- the doubling
pub record IsWidth (width : ℕ) : Type 0 where
  pub some : 1 ≤ width
  pub few : width ≤ 2 ^ 115 + 2

pub twice_width : (stage : Stage) (f g : SpecCurve) (width : ℕ) → IsCurve f → IsCurve g → AreFinite f g → IsWidth width → IsBefore (Meets stage f g (width - 1)) (stage_gauge stage f g (width - 1)) → IsWidth (width * 2)
twice_width stage f g width F G both W B =
    let few = few_before stage f g (width - 1) F G both B.narrow in
    let some = W.some in
    record { some = omega (arith, some); few = omega (arith, few, some) }
