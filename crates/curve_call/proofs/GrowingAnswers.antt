-- The answer of each kind grows from zero, where its operands do, or where it is made of times before or after.
use Rattle.std.specs.Prelude.{◌≡◌}
use Rattle.std.proofs.Common.{arith, sym, ap, ap₂, ◌∙◌, subst, inl, inr}
use Rattle.rational.specs.Rational.{ℚ, ◌-ℚ◌, ◌≤ℚ◌}
use Rattle.rational.specs.Extended.{Ext, ◌≤ₑ◌, ◌+ₑ◌, min_ext, max_ext}
use Rattle.rational.specs.declared.Extended.TheVariants.{Fin, Inf}
use Rattle.rational.proofs.Bounds.{greatest, smallest, infimum_le, supremum_le}
use Rattle.rational.proofs.ExtendedOrder.{le_ext_refl, le_ext_trans, same_le_ext, antisym_ext, add_le_ext, zero_add_ext, min_ext_mono, max_ext_mono}
use Rattle.rational.proofs.Laws.{le_refl, le_trans, le_of_lt, le_or_lt, antisym, add_zero, mul_le_mul, mul_zero}
use Rattle.rational.proofs.Linear.{with2, with4}
use Rattle.rational.proofs.MinMax.{min_q_self, max_q_self}
use Rattle.upp_limits.specs.declared.op_kind.OpKind.TheVariants.{Sum, Min, Max, PosDiff, PosMinus, Scale, Shift, RunSup, RunInf, FifoLeft, Convolve, Deconvolve, Horizontal, Vertical, Itself}
use Rattle.min_plus.specs.Functions.{zero_q, UpTo, From, IsFinite, IsRising}
use Rattle.min_plus.specs.Pointwise.{excess, scaled}
use Rattle.min_plus.specs.Convolution.{Split, IsConvolution}
use Rattle.min_plus.specs.Running.{left_after, IsRunningSupremum, IsRunningInfimum}
use Rattle.curve_call.specs.Growth.{GrowsFromZero, StartsAtNothing, IsBoundedFromZero, AnswersGrow}
use Rattle.curve_call.proofs.Excesses.{excess_nonneg, excess_mono, excess_nothing}
use Rattle.curve_call.proofs.FiniteAnswers.{early_left, late_left, left_finite, supremum_finite, infimum_finite, finite_answers}

-- what rises from 0 is nowhere below it
pub grown : (h : ℚ → Ext) → IsFinite h → h zero_q ≡ Fin zero_q → IsRising h → GrowsFromZero h
grown h finite start rising = record {
  finite = finite;
  start = start;
  rising = rising;
  nonneg = λ t p. subst (λ (v : Ext). v ≤ₑ h t) start (rising zero_q t (le_refl zero_q) p);
}

-- where h has the values of m, which rises
pub same_rising : (m h : ℚ → Ext) → ((t : ℚ) → zero_q ≤ℚ t → h t ≡ m t) → ((s t : ℚ) → zero_q ≤ℚ s → s ≤ℚ t → m s ≤ₑ m t) → IsRising h
same_rising m h is up s t low more =
    let at = le_trans low more in
    le_ext_trans (h s) (m s) (h t) (same_le_ext (is s low)) (le_ext_trans (m s) (m t) (h t) (up s t low more) (same_le_ext (sym (is t at))))

-- ---- bounds
pub supremum_grows : (f h : ℚ → Ext) → IsBoundedFromZero f → ((t : ℚ) → zero_q ≤ℚ t → IsRunningSupremum f t (h t)) → GrowsFromZero h
supremum_grows f h need is = grown h (supremum_finite f h need.bounded is) start rising
  where
    only : (s : UpTo zero_q) → f s.at ≤ₑ Fin zero_q
    only s = same_le_ext (ap f (antisym (s.most, s.nonneg)) ∙ need.start)

    start : h zero_q ≡ Fin zero_q
    start =
        let all = is zero_q (le_refl zero_q) in
        antisym_ext (h zero_q) (Fin zero_q) (smallest {I = UpTo zero_q} (λ s. f s.at) (h zero_q) (Fin zero_q) all only)
        (subst (λ (v : Ext). v ≤ₑ h zero_q) need.start (all.above record { at = zero_q; nonneg = le_refl zero_q; most = le_refl zero_q }))

    rising : IsRising h
    rising s t low more =
        supremum_le {I = UpTo s} {J = UpTo t} (λ u. f u.at) (λ u. f u.at) (h s) (h t) (is s low) (is t (le_trans low more))
        (λ u. (record { at = u.at; nonneg = u.nonneg; most = le_trans u.most more }, le_ext_refl (f u.at)))

pub infimum_grows : (f h : ℚ → Ext) → StartsAtNothing f → ((t : ℚ) → zero_q ≤ℚ t → IsRunningInfimum f t (h t)) → GrowsFromZero h
infimum_grows f h need is = grown h (infimum_finite f h need.finite is) start rising
  where
    start : h zero_q ≡ Fin zero_q
    start =
        let all = is zero_q (le_refl zero_q) in
        antisym_ext (h zero_q) (Fin zero_q)
        (subst (λ (v : Ext). h zero_q ≤ₑ v) need.start (all.below record { at = zero_q; least = le_refl zero_q }))
        (greatest {I = From zero_q} (λ s. f s.at) (h zero_q) (Fin zero_q) all (λ s. need.nonneg s.at s.least))

    rising : IsRising h
    rising s t low more =
        infimum_le {I = From s} {J = From t} (λ u. f u.at) (λ u. f u.at) (h s) (h t) (is s low) (is t (le_trans low more))
        (λ u. (record { at = u.at; least = le_trans more u.least }, le_ext_refl (f u.at)))

-- what first in, first out leaves is nothing up to theta, and an excess after it
left_starts : (beta cross : ℚ → Ext) (theta : ℚ) → zero_q ≤ℚ theta → IsFinite beta → StartsAtNothing (left_after beta cross theta)
left_starts beta cross theta low finite = record {
  finite = left_finite beta cross theta finite;
  start = early_left beta cross theta zero_q low;
  nonneg = λ t p. elim (le_or_lt t theta) [
    | inl l ↦ same_le_ext (sym (early_left beta cross theta t l))
    | inr l ↦ subst (λ (v : Ext). Fin zero_q ≤ₑ v) (sym (late_left beta cross theta t l)) (excess_nonneg (beta t) (cross (t -ℚ theta)))
  ];
}

-- ---- convolution
-- for each split of t there is one of an earlier s, neither part of which is later
record Within (s : ℚ) (u : Split s) (first second : ℚ) : Type 0 where
  pub one : u.first ≤ℚ first
  pub two : u.second ≤ℚ second

earlier_split : (s t : ℚ) → zero_q ≤ℚ s → s ≤ℚ t → (u : Split t) → (w : Split s) × Within s w u.first u.second
earlier_split s t low more u = elim (le_or_lt u.first s) [
  | inl l ↦
      let a = u.first in
      let b = u.second in
      let whole = u.whole in (
        record {
          first = a;
          second = s -ℚ a;
          first_nonneg = u.first_nonneg;
          second_nonneg = with2 s a (λ c. omega (arith, c.le, c.lt, c.same));
          whole = with2 s a (λ c. omega (arith, c.le, c.lt, c.same));
        },
        record { one = le_refl a; two = with4 s a b t (λ c. omega (arith, c.le, c.lt, c.same)) },
      )
  | inr l ↦ (
    record { first = s; second = zero_q; first_nonneg = low; second_nonneg = le_refl zero_q; whole = add_zero s },
    record { one = le_of_lt l; two = u.second_nonneg },
  )
]

convolution_rises : (f g h : ℚ → Ext) → IsRising f → IsRising g → ((t : ℚ) → zero_q ≤ℚ t → IsConvolution f g t (h t)) → IsRising h
convolution_rises f g h one two is s t low more =
    infimum_le {I = Split s} {J = Split t} (λ u. f u.first +ₑ g u.second) (λ u. f u.first +ₑ g u.second) (h s) (h t) (is s low) (is t (le_trans low more))
    (λ u. let (w, m) = earlier_split s t low more u in (
      w,
      add_le_ext (f w.first) (f u.first) (g w.second) (g u.second) (one w.first u.first w.first_nonneg m.one) (two w.second u.second w.second_nonneg m.two),
    ))

nothing : (f g : ℚ → Ext) → f zero_q ≡ Fin zero_q → g zero_q ≡ Fin zero_q → f zero_q +ₑ g zero_q ≡ Fin zero_q
nothing f g a b = ap₂ (λ (x y : Ext). x +ₑ y) a b ∙ zero_add_ext (Fin zero_q)

convolution_starts : (f g h : ℚ → Ext) → GrowsFromZero f → GrowsFromZero g → IsConvolution f g zero_q (h zero_q) → h zero_q ≡ Fin zero_q
convolution_starts f g h one two all =
    antisym_ext (h zero_q) (Fin zero_q)
    (subst (λ (v : Ext). h zero_q ≤ₑ v) (nothing f g one.start two.start)
    (all.below record { first = zero_q; second = zero_q; first_nonneg = le_refl zero_q; second_nonneg = le_refl zero_q; whole = add_zero zero_q }))
    (greatest {I = Split zero_q} (λ u. f u.first +ₑ g u.second) (h zero_q) (Fin zero_q) all
    (λ u. subst (λ (v : Ext). v ≤ₑ f u.first +ₑ g u.second) (zero_add_ext (Fin zero_q))
    (add_le_ext (Fin zero_q) (f u.first) (Fin zero_q) (g u.second) (one.nonneg u.first u.first_nonneg) (two.nonneg u.second u.second_nonneg))))

-- ---- each kind
scaled_mono : (q : ℚ) (v w : Ext) → zero_q ≤ℚ q → v ≤ₑ w → scaled q v ≤ₑ scaled q w
scaled_mono q v Inf low h = tt
scaled_mono q Inf (Fin y) low h = absurd h
scaled_mono q (Fin x) (Fin y) low h = mul_le_mul q low h

pub growing_answers : AnswersGrow
growing_answers Sum f g h need is =
    grown h (finite_answers Sum f g h (need.0.finite, need.1.finite) is) (is zero_q (le_refl zero_q) ∙ nothing f g need.0.start need.1.start)
    (same_rising (λ t. f t +ₑ g t) h is (λ s t low more. add_le_ext (f s) (f t) (g s) (g t) (need.0.rising s t low more) (need.1.rising s t low more)))
growing_answers Min f g h need is =
    grown h (finite_answers Min f g h (inl need.0.finite) is)
    (is zero_q (le_refl zero_q) ∙ ap₂ min_ext need.0.start need.1.start ∙ ap Fin (min_q_self zero_q))
    (same_rising (λ t. min_ext (f t) (g t)) h is (λ s t low more. min_ext_mono (f s) (g s) (f t) (g t) (need.0.rising s t low more) (need.1.rising s t low more)))
growing_answers Max f g h need is =
    grown h (finite_answers Max f g h (need.0.finite, need.1.finite) is)
    (is zero_q (le_refl zero_q) ∙ ap₂ max_ext need.0.start need.1.start ∙ ap Fin (max_q_self zero_q))
    (same_rising (λ t. max_ext (f t) (g t)) h is (λ s t low more. max_ext_mono (f s) (g s) (f t) (g t) (need.0.rising s t low more) (need.1.rising s t low more)))
growing_answers PosDiff f g h need is = absurd need
growing_answers (PosMinus l) f g h need is =
    grown h (finite_answers (PosMinus l) f g h need.1.finite is)
    (is zero_q (le_refl zero_q) ∙ excess_nothing (f zero_q) (Fin l) need.1.start need.0)
    (same_rising (λ t. excess (f t) (Fin l)) h is (λ s t low more. excess_mono (f s) (f t) (Fin l) (need.1.rising s t low more)))
growing_answers (Scale q) f g h need is =
    grown h (finite_answers (Scale q) f g h need.1.finite is)
    (is zero_q (le_refl zero_q) ∙ ap (scaled q) need.1.start ∙ ap Fin (mul_zero q))
    (same_rising (λ t. scaled q (f t)) h is (λ s t low more. scaled_mono q (f s) (f t) need.0 (need.1.rising s t low more)))
growing_answers (Shift x) f g h need is = absurd need
growing_answers RunSup f g h need is = supremum_grows f h need is
growing_answers RunInf f g h need is = infimum_grows f h need is
growing_answers (FifoLeft Inf) f g h need is =
    grown h (λ t p. (zero_q, is t p)) (is zero_q (le_refl zero_q)) (same_rising (λ _. Fin zero_q) h is (λ s t low more. le_refl zero_q))
growing_answers (FifoLeft (Fin theta)) f g h need is = infimum_grows (left_after f g theta) h (left_starts f g theta need.0 need.1) is
growing_answers Convolve f g h need is =
    grown h (finite_answers Convolve f g h (need.0.finite, need.1.finite) is) (convolution_starts f g h need.0 need.1 (is zero_q (le_refl zero_q)))
    (convolution_rises f g h need.0.rising need.1.rising is)
growing_answers Deconvolve f g h need is = absurd need
growing_answers Horizontal f g h need is = absurd need
growing_answers Vertical f g h need is = absurd need
growing_answers Itself f g h need is = absurd need
