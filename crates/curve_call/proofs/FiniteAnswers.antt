-- The answer of each kind is finite at each time, where its operands are finite enough.
use Rattle.std.specs.Prelude.{◌≡◌}
use Rattle.std.proofs.Common.{arith, sym, ap, ap₂, ◌∙◌, refl, subst, inl, inr}
use Rattle.rational.specs.Rational.{ℚ, ◌+ℚ◌, ◌-ℚ◌, ◌*ℚ◌, ◌≤ℚ◌, ◌<ℚ◌}
use Rattle.rational.specs.MinMax.{max_q}
use Rattle.rational.specs.Extended.{Ext, ◌≤ₑ◌, ◌+ₑ◌, max_ext}
use Rattle.rational.specs.declared.Extended.TheVariants.{Fin, Inf}
use Rattle.rational.proofs.Bounds.{smallest}
use Rattle.rational.proofs.ExtendedOrder.{le_ext_trans, same_le_ext, finite_below, min_left, min_right}
use Rattle.rational.proofs.Laws.{le_refl, le_or_lt, add_zero}
use Rattle.rational.proofs.Linear.{with2}
use Rattle.rational.proofs.MinMax.{le_q_not}
use Rattle.rational.proofs.Over.{le_q_out}
use Rattle.upp_limits.specs.declared.op_kind.OpKind.TheVariants.{Sum, Min, Max, PosDiff, PosMinus, Scale, Shift, RunSup, RunInf, FifoLeft, Convolve, Deconvolve, Horizontal, Vertical, Itself}
use Rattle.min_plus.specs.Functions.{zero_q, UpTo, IsFinite}
use Rattle.min_plus.specs.Pointwise.{excess, scaled}
use Rattle.min_plus.specs.Running.{left_after, IsRunningSupremum, IsRunningInfimum}
use Rattle.curve_call.specs.Finite.{IsBounded, AnswersAreFinite}
use Rattle.curve_call.proofs.Excesses.{finite_excess}

-- ---- what a value is at most, or equal to
at_most : (v w : Ext) (x : ℚ) → v ≤ₑ w → w ≡ Fin x → (level : ℚ) × (v ≡ Fin level)
at_most v w x h e = finite_below v x (le_ext_trans v w (Fin x) h (same_le_ext e))

-- ---- what first in, first out leaves after a time
pub early_left : (beta cross : ℚ → Ext) (theta x : ℚ) → x ≤ℚ theta → left_after beta cross theta x ≡ Fin zero_q
unfolding left_after
early_left beta cross theta x l = rw (le_q_out x theta l) refl

pub late_left : (beta cross : ℚ → Ext) (theta x : ℚ) → theta <ℚ x → left_after beta cross theta x ≡ excess (beta x) (cross (x -ℚ theta))
unfolding left_after
late_left beta cross theta x l = rw (le_q_not x theta l) refl

pub left_finite : (beta cross : ℚ → Ext) (theta : ℚ) → IsFinite beta → IsFinite (left_after beta cross theta)
left_finite beta cross theta finite x p = elim (le_or_lt x theta) [
  | inl l ↦ (zero_q, early_left beta cross theta x l)
  | inr l ↦
      let level = finite x p in
      let found = finite_excess (beta x) (cross (x -ℚ theta)) level.0 level.1 in
      (found.0, late_left beta cross theta x l ∙ found.1)
]

-- ---- bounds
pub supremum_finite : (f h : ℚ → Ext) → IsBounded f → ((t : ℚ) → zero_q ≤ℚ t → IsRunningSupremum f t (h t)) → IsFinite h
supremum_finite f h bounded is t p =
    let found = bounded t p in
    finite_below (h t) found.0 (smallest {I = UpTo t} (λ s. f s.at) (h t) (Fin found.0) (is t p) (λ s. found.1 s.at s.nonneg s.most))

pub infimum_finite : (f h : ℚ → Ext) → IsFinite f → ((t : ℚ) → zero_q ≤ℚ t → IsRunningInfimum f t (h t)) → IsFinite h
infimum_finite f h finite is t p =
    let found = finite t p in
    at_most (h t) (f t) found.0 ((is t p).below record { at = t; least = le_refl t }) found.1

-- ---- each kind
pub finite_answers : AnswersAreFinite
finite_answers Sum f g h need is t p =
    let a = need.0 t p in
    let b = need.1 t p in
    (a.0 +ℚ b.0, is t p ∙ ap₂ (λ (x y : Ext). x +ₑ y) a.1 b.1)
finite_answers Min f g h (inl need) is t p =
    let a = need t p in at_most (h t) (f t) a.0 (subst (λ (v : Ext). v ≤ₑ f t) (sym (is t p)) (min_left (f t) (g t))) a.1
finite_answers Min f g h (inr need) is t p =
    let a = need t p in at_most (h t) (g t) a.0 (subst (λ (v : Ext). v ≤ₑ g t) (sym (is t p)) (min_right (f t) (g t))) a.1
finite_answers Max f g h need is t p =
    let a = need.0 t p in
    let b = need.1 t p in
    (max_q a.0 b.0, is t p ∙ ap₂ max_ext a.1 b.1)
finite_answers PosDiff f g h need is t p =
    let a = need t p in let found = finite_excess (f t) (g t) a.0 a.1 in (found.0, is t p ∙ found.1)
finite_answers (PosMinus l) f g h need is t p =
    let a = need t p in let found = finite_excess (f t) (Fin l) a.0 a.1 in (found.0, is t p ∙ found.1)
finite_answers (Scale q) f g h need is t p = let a = need t p in (q *ℚ a.0, is t p ∙ ap (scaled q) a.1)
finite_answers (Shift Inf) f g h need is t p = absurd need
finite_answers (Shift (Fin x)) f g h need is t p =
    let low = need.0 in
    let a = need.1 (t +ℚ x) (with2 t x (λ c. omega (arith, c.le, c.lt, c.same))) in
    (a.0, is t p ∙ a.1)
finite_answers RunSup f g h need is t p = supremum_finite f h need is t p
finite_answers RunInf f g h need is t p = infimum_finite f h need is t p
finite_answers (FifoLeft Inf) f g h need is t p = (zero_q, is t p)
finite_answers (FifoLeft (Fin theta)) f g h need is t p = infimum_finite (left_after f g theta) h (left_finite f g theta need) is t p
finite_answers Convolve f g h need is t p =
    let a = need.0 t p in
    let b = need.1 zero_q (le_refl zero_q) in
    at_most (h t) (f t +ₑ g zero_q) (a.0 +ℚ b.0)
    ((is t p).below record { first = t; second = zero_q; first_nonneg = p; second_nonneg = le_refl zero_q; whole = add_zero t })
    (ap₂ (λ (x y : Ext). x +ₑ y) a.1 b.1)
finite_answers Deconvolve f g h need is t p = absurd need
finite_answers Horizontal f g h need is t p = absurd need
finite_answers Vertical f g h need is t p = absurd need
finite_answers Itself f g h need is t p = absurd need
