-- Which functions rise, by how they are made, whatever their values at 0.
use Rattle.std.specs.Prelude.{ℕ}
use Rattle.std.proofs.Common.{arith, subst}
use Rattle.rational.specs.Rational.{ℚ, ◌+ℚ◌, ◌-ℚ◌, ◌≤ℚ◌}
use Rattle.rational.specs.Extended.{Ext, ◌≤ₑ◌, ◌-ₑ◌, ◌+ₑ◌, min_ext}
use Rattle.rational.specs.declared.Extended.TheVariants.{Fin, Inf}
use Rattle.rational.proofs.Bounds.{smallest, supremum_le}
use Rattle.rational.proofs.ExtendedOrder.{le_ext_refl, le_ext_trans, le_inf, add_le_ext, min_ext_mono}
use Rattle.rational.proofs.Laws.{le_refl, le_trans, add_le_add}
use Rattle.rational.proofs.Linear.{with3}
use Rattle.rational.proofs.MinMax.{max_q_mono}
use Rattle.upp_limits.specs.declared.op_kind.OpKind.TheVariants.{Sum, Min, Shift, Deconvolve}
use Rattle.upp_curve.specs.Curve.{SpecCurve, value_at}
use Rattle.min_plus.specs.Functions.{zero_q, UpTo, FiniteTime, IsRising}
use Rattle.min_plus.specs.Pointwise.{excess, shifted}
use Rattle.run_laws.specs.Cards.{whole}
use Rattle.run_laws.proofs.Sizes.{whole_nonneg}
use Rattle.curve_call.specs.Answers.{IsMadeBy}
use Rattle.curve_call.specs.Growth.{GrowsFromZero}
use Rattle.curve_call.proofs.Excesses.{finite_excess, excess_nonneg, excess_mono, excess_most}
use Rattle.curve_call.proofs.FiniteAnswers.{supremum_finite}
use Rattle.curve_call.proofs.GrowingAnswers.{same_rising}
use Rattle.curve_deconv.proofs.Kept.{sub_le}
use Rattle.residual_laws.specs.PriorityLaws.{IsPriorityService, priority_left}
use Rattle.cell_numbers.specs.Shapes.{IsServed}
use Rattle.min_plus.proofs.TimeSums.{nonneg_sum}

-- ---- calls
pub sum_rises : (f g h : SpecCurve) → IsRising (value_at f) → IsRising (value_at g) → IsMadeBy Sum f g h → IsRising (value_at h)
sum_rises f g h p q made =
    same_rising (λ t. value_at f t +ₑ value_at g t) (value_at h) made.answers
    (λ s t low more. add_le_ext (value_at f s) (value_at f t) (value_at g s) (value_at g t) (p s t low more) (q s t low more))

pub min_rises : (f g h : SpecCurve) → IsRising (value_at f) → IsRising (value_at g) → IsMadeBy Min f g h → IsRising (value_at h)
min_rises f g h p q made =
    same_rising (λ t. min_ext (value_at f t) (value_at g t)) (value_at h) made.answers
    (λ s t low more. min_ext_mono (value_at f s) (value_at g s) (value_at f t) (value_at g t) (p s t low more) (q s t low more))

shifted_rises : (f : ℚ → Ext) (x : Ext) → Fin zero_q ≤ₑ x → IsRising f → (s t : ℚ) → zero_q ≤ℚ s → s ≤ℚ t → shifted f x s ≤ₑ shifted f x t
shifted_rises f Inf ahead p s t low more = le_inf Inf
shifted_rises f (Fin d) ahead p s t low more = p (s +ℚ d) (t +ℚ d) (nonneg_sum s d low ahead) (add_le_add more (le_refl d))

pub shift_rises : (f h : SpecCurve) (x : Ext) → Fin zero_q ≤ₑ x → IsRising (value_at f) → IsMadeBy (Shift x) f f h → IsRising (value_at h)
shift_rises f h x ahead p made = same_rising (shifted (value_at f) x) (value_at h) made.answers (shifted_rises (value_at f) x ahead p)

pub deconvolution_rises : (f g h : SpecCurve) → IsRising (value_at f) → IsMadeBy Deconvolve f g h → IsRising (value_at h)
deconvolution_rises f g h p made s t low more =
    smallest {I = FiniteTime (value_at g)} (λ u. value_at f (s +ℚ u.at) -ₑ u.level) (value_at h s) (value_at h t) (made.answers s low)
    (λ u.
    let late = made.answers t (le_trans low more) in
    le_ext_trans (value_at f (s +ℚ u.at) -ₑ u.level) (value_at f (t +ℚ u.at) -ₑ u.level) (value_at h t)
    (sub_le (value_at f (s +ℚ u.at)) (value_at f (t +ℚ u.at)) u.level
    (p (s +ℚ u.at) (t +ℚ u.at) (nonneg_sum s u.at low u.nonneg) (add_le_add more (le_refl u.at))))
    (late.above u))

-- ---- services
pub grows_served : (f : ℚ → Ext) → GrowsFromZero f → IsServed f
grows_served f g = record { finite = g.finite; rising = g.rising; nonneg = g.nonneg }

-- less is taken off where less is taken
excess_less : (v w y : Ext) → w ≤ₑ y → excess v y ≤ₑ excess v w
excess_less v w Inf l = excess_nonneg v w
excess_less v Inf (Fin y) l = absurd l
excess_less Inf (Fin w) (Fin y) l = le_inf Inf
excess_less (Fin v) (Fin w) (Fin y) l =
    max_q_mono zero_q (v -ℚ y) zero_q (v -ℚ w) (le_refl zero_q) (with3 v w y (λ c. omega (arith, c.le, c.lt, c.same)))

-- what a priority server leaves is at most the service at a later time less what the higher queues bring at 0
priority_most : (β higher : ℚ → Ext) (lower : ℕ) (s t : ℚ) → zero_q ≤ℚ s → s ≤ℚ t → IsRising β → IsRising higher
    → priority_left β higher lower s ≤ₑ excess (β t) (higher zero_q)
priority_most β higher lower s t low more up rise =
    le_ext_trans (priority_left β higher lower s) (excess (β s) (higher s)) (excess (β t) (higher zero_q))
    (excess_most (excess (β s) (higher s)) (Fin (whole lower)) (excess_nonneg (β s) (higher s)) (whole_nonneg lower))
    (le_ext_trans (excess (β s) (higher s)) (excess (β t) (higher s)) (excess (β t) (higher zero_q))
    (excess_mono (β s) (β t) (higher s) (up s t low more))
    (excess_less (β t) (higher zero_q) (higher s) (rise zero_q s (le_refl zero_q) low)))

pub priority_served : (β higher R : ℚ → Ext) (lower : ℕ) → IsServed β → IsRising higher → IsPriorityService β higher lower R → IsServed R
priority_served β higher R lower served rise is = record {
  finite = supremum_finite left R (λ t p.
      let level = served.finite t p in
      let most = finite_excess (β t) (higher zero_q) level.0 level.1 in (
        most.0,
        λ s low more. subst (λ (x : Ext). left s ≤ₑ x) most.1 (priority_most β higher lower s t low more served.rising rise),
      )) is;
  rising = λ s t low more.
      supremum_le {I = UpTo s} {J = UpTo t} (λ u. left u.at) (λ u. left u.at) (R s) (R t) (is s low) (is t (le_trans low more))
      (λ u. (record { at = u.at; nonneg = u.nonneg; most = le_trans u.most more }, le_ext_refl (left u.at)));
  nonneg = λ t p.
      le_ext_trans (Fin zero_q) (left t) (R t) (excess_nonneg (excess (β t) (higher t)) (Fin (whole lower)))
      ((is t p).above record { at = t; nonneg = p; most = le_refl t });
}
  where
    left : ℚ → Ext
    left = priority_left β higher lower
