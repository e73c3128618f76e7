-- Two curves of which the second is finite: by how much they rise, and the deconvolution where the first is the faster.
use Rattle.std.specs.Prelude.{◌≡◌, pos}
use Rattle.std.proofs.Common.{sym, ◌∙◌, subst, inl, inr, arith}
use Rattle.rational.specs.Rational.{ℚ, ◌+ℚ◌, ◌*ℚ◌, ◌≤ℚ◌, ◌<ℚ◌, int}
use Rattle.rational.specs.Extended.{◌<ₑ◌}
use Rattle.rational.specs.declared.Extended.TheVariants.{Fin, Inf}
use Rattle.rational.proofs.Linear.{with3}
use Rattle.rational.proofs.MinMax.{max_q_ge_left, max_q_ge_right}
use Rattle.rational.proofs.Laws.{le_refl, le_trans, le_of_lt, le_of_not_lt, mul_le_mul_right}
use Rattle.rational.proofs.ExtendedOrder.{same_le_ext}
use Rattle.upp_curve.specs.Curve.{SpecCurve, value_at}
use Rattle.upp_curve.specs.Curves.{IsCurve}
use Rattle.min_plus.specs.Functions.{IsFinite}
use Rattle.upp_curve.specs.Steady.{Repeats, steady, rate, rise_over, IsWholePeriods}
use Rattle.upp_limits.specs.Periods.{common_period, both_steady}
use Rattle.min_plus.specs.Convolution.{IsDeconvolution}
use Rattle.upp_curve.proofs.Steady.{steady_rule}
use Rattle.curve_call.proofs.CurveTimes.{common_some}
use Rattle.curve_call.proofs.CurveRises.{common_first, common_second}
use Rattle.upp_normal.proofs.UnrollSteps.{ext_cases}
use Rattle.curve_call.proofs.LeastNumber.{gains}
use Rattle.curve_call.proofs.RateRises.{rate_rise, infinite_value}
use Rattle.curve_deconv.proofs.Reduced.{gaining}
use Rattle.upp_curve.proofs.SteadyTimes.{steady_nonneg}

no_rate : (g : SpecCurve) → IsCurve g → IsFinite (value_at g) → rate g ≡ Inf → ⊥
no_rate g G finite e =
    let (v, k) = finite (steady g) (steady_nonneg g G) in
    same_le_ext (sym (infinite_value g (steady g) G e (le_refl (steady g))) ∙ k)

-- the first rises by no more
pub slower_rise : (f g : SpecCurve) (d : ℚ) → IsCurve g → int (pos 0) <ℚ d → IsFinite (value_at g) → ¬ (rate g <ₑ rate f) → rise_over f d ≤ℚ rise_over g d
slower_rise f g d G some finite slow = elim (ext_cases (rate g)) [
  | inl k ↦ absurd (no_rate g G finite k)
  | inr (s, k) ↦ elim (ext_cases (rate f)) [
    | inl e ↦ absurd (slow (subst (λ x. x <ₑ rate f) (sym k) (subst (λ x. Fin s <ₑ x) (sym e) tt)))
    | inr (r, e) ↦
        let less : r ≤ℚ s = le_of_not_lt (λ h. slow (subst (λ x. x <ₑ rate f) (sym k) (subst (λ x. Fin s <ₑ x) (sym e) h))) in
        let more : r *ℚ d ≤ℚ s *ℚ d = mul_le_mul_right d (le_of_lt some) less in
        subst (λ x. x ≤ℚ rise_over g d) (rate_rise f d r e) (subst (λ x. r *ℚ d ≤ℚ x) (rate_rise g d s k) more)
  ]
]

-- a curve repeats from any time after it begins to
pub repeats_from : (c : SpecCurve) (from d : ℚ) → IsCurve c → int (pos 0) <ℚ d → IsWholePeriods c.tail d → steady c ≤ℚ from → Repeats (value_at c) from d (rise_over c d)
repeats_from c from d C some periods by = record { rule = λ t h. (steady_rule c d C.normal.raw periods (le_of_lt some)).rule t (le_trans by h) }

pub faster_deconvolves : (f g : SpecCurve) (t : ℚ) → IsCurve f → IsCurve g → IsFinite (value_at g) → rate g <ₑ rate f → int (pos 0) ≤ℚ t → IsDeconvolution (value_at f) (value_at g) t Inf
faster_deconvolves f g t F G finite faster low =
    let d = common_period f g in
    let from = both_steady f g in
    let some = common_some f g F G in
    let f_by : steady f ≤ℚ from = max_q_ge_left (steady f) (steady g) in
    let g_by : steady g ≤ℚ from = max_q_ge_right (steady f) (steady g) in
    let late : steady f ≤ℚ t +ℚ from = (let s = steady f in with3 s t from (λ c. omega (arith, c.le, c.lt, c.same))) in
    gaining (value_at f) (value_at g) from d (rise_over f d) (rise_over g d) t some (le_trans (steady_nonneg g G) g_by)
    (repeats_from f from d F some (common_first f g F G) f_by) (repeats_from g from d G some (common_second f g F G) g_by) finite low
    (λ x e. gains g f d (t +ℚ from) x F some faster late e)
