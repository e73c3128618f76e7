-- How far each kind of call looks: the end of its window, for the number of periods after which its answer repeats. Own
-- choice.
use Rattle.std.specs.Prelude.{◌≡◌, ℕ, suc, ◌+◌, ◌<◌, ◌⊎◌}
use Rattle.rational.specs.Rational.{ℚ, ◌+ℚ◌, ◌-ℚ◌, ◌≤ℚ◌, ◌<ℚ◌}
use Rattle.rational.specs.Extended.{Ext, ◌≤ₑ◌, ◌<ₑ◌, ◌+ₑ◌}
use Rattle.rational.specs.declared.Extended.TheVariants.{Fin, Inf}
use Rattle.upp_limits.specs.declared.op_kind.OpKind.{OpKind}
use Rattle.upp_limits.specs.declared.op_kind.OpKind.TheVariants.{Sum, Min, Max, PosDiff, PosMinus, Scale, Shift, RunSup}
use Rattle.upp_limits.specs.declared.op_kind.OpKind.TheVariants.{RunInf, FifoLeft, Convolve, Deconvolve, Horizontal}
use Rattle.upp_limits.specs.declared.op_kind.OpKind.TheVariants.{Vertical, Itself}
use Rattle.upp_curve.specs.Curve.{SpecCurve, value_at}
use Rattle.upp_curve.specs.Steady.{steady, rise_over, rate}
use Rattle.upp_limits.specs.Periods.{period_of, common_period, own_period, period_or, both_steady, moved_steady}
use Rattle.upp_limits.specs.Periods.{periods_after}
use Rattle.min_plus.specs.Functions.{zero_q}
use Rattle.min_plus.specs.Convolution.{Split}

-- ---- the window's end
-- for the number k of periods, and for the horizontal deviation also a second number m
unfoldable pub window_at : OpKind → SpecCurve → SpecCurve → ℕ → ℕ → ℚ
window_at Sum f g k m = both_steady f g +ℚ common_period f g
window_at Min f g k m = periods_after (both_steady f g) (suc k) (common_period f g)
window_at Max f g k m = periods_after (both_steady f g) (suc k) (common_period f g)
window_at PosDiff f g k m = periods_after (both_steady f g) (suc k) (common_period f g)
window_at (PosMinus l) f g k m = periods_after (steady f) (suc k) (own_period f)
window_at (Scale q) f g k m = steady f +ℚ own_period f
window_at (Shift Inf) f g k m = zero_q
window_at (Shift (Fin x)) f g k m = steady f +ℚ own_period f +ℚ x
window_at RunSup f g k m = periods_after (steady f) (k + 2) (own_period f)
window_at RunInf f g k m = periods_after (steady f) 2 (own_period f)
window_at (FifoLeft Inf) f g k m = zero_q
window_at (FifoLeft (Fin theta)) f g k m = periods_after (moved_steady f g theta) (k + 2) (common_period f g)
window_at Convolve f g k m = periods_after (steady f +ℚ steady g) (k + 2) (common_period f g)
window_at Deconvolve f g k m =
    steady f +ℚ period_or (common_period f g) (period_of f.tail) +ℚ both_steady f g +ℚ common_period f g
window_at Horizontal f g k m = periods_after (periods_after (steady f) (suc k) (common_period f g)) (suc m)
    (common_period f g)
window_at Vertical f g k m = both_steady f g +ℚ common_period f g
window_at Itself f g k m = steady f +ℚ own_period f

-- ---- what the number of periods has to meet
-- on [from, from + d) f is nowhere above g
abbrev pub IsBelowFor : (ℚ → Ext) → (ℚ → Ext) → ℚ → ℚ → Type 0
IsBelowFor f g from d = (t : ℚ) → from ≤ℚ t → t <ℚ from +ℚ d → f t ≤ₑ g t

-- there the one of smaller rate is nowhere above the other; of equal rates nothing is asked
pub record IsSlowerBelow (f g : ℚ → Ext) (rate_f rate_g : Ext) (from d : ℚ) : Type 0 where
  pub first : rate_f <ₑ rate_g → IsBelowFor f g from d
  pub second : rate_g <ₑ rate_f → IsBelowFor g f from d

-- the supremum over [from, from + d) is at least that over [0, end): each bound of the one bounds the other
abbrev pub IsCovered : (ℚ → Ext) → ℚ → ℚ → ℚ → Type 0
IsCovered f from d end =
    (b : ℚ) → ((t : ℚ) → from ≤ℚ t → t <ℚ from +ℚ d → f t ≤ₑ Fin b) → (s : ℚ) → zero_q ≤ℚ s → s <ℚ end → f s ≤ₑ Fin b

-- at t, the sums of `slow` past its steady time with `fast` have no greater infimum than those of `slow` before it with
-- `fast` past its own: what is at most each of the first sums is at most each of the second
abbrev pub IsLateLeast : (ℚ → Ext) → (ℚ → Ext) → ℚ → ℚ → ℚ → Type 0
IsLateLeast slow fast steady_slow steady_fast t =
    (b : ℚ) → ((s : Split t) → steady_slow ≤ℚ s.first → Fin b ≤ₑ slow s.first +ₑ fast s.second)
    → (s : Split t) → s.first <ℚ steady_slow → steady_fast ≤ℚ s.second → Fin b ≤ₑ slow s.first +ₑ fast s.second

abbrev pub IsLateLeastFor : SpecCurve → SpecCurve → ℚ → ℚ → Type 0
IsLateLeastFor slow fast from d =
    (t : ℚ) → from ≤ℚ t → t <ℚ from +ℚ d → IsLateLeast (value_at slow) (value_at fast) (steady slow) (steady fast) t

pub record IsSlowerLateLeast (f g : SpecCurve) (from d : ℚ) : Type 0 where
  pub first : rate f <ₑ rate g → IsLateLeastFor f g from d
  pub second : rate g <ₑ rate f → IsLateLeastFor g f from d

abbrev pub IsConstantFrom : (ℚ → Ext) → ℚ → Type 0
IsConstantFrom f from = (t : ℚ) → from ≤ℚ t → f t ≡ f from

-- k periods are enough; a kind that needs none asks nothing
abbrev pub Meets : OpKind → SpecCurve → SpecCurve → ℕ → Type 0
Meets Sum f g k = Unit {0}
Meets Min f g k = IsSlowerBelow (value_at f) (value_at g) (rate f) (rate g)
    (periods_after (both_steady f g) k (common_period f g)) (common_period f g)
Meets Max f g k = IsSlowerBelow (value_at f) (value_at g) (rate f) (rate g)
    (periods_after (both_steady f g) k (common_period f g)) (common_period f g)
Meets PosDiff f g k =
    IsSlowerBelow (value_at f) (value_at g) (rate f) (rate g) (periods_after (both_steady f g) k (common_period f g))
    (common_period f g)
Meets (PosMinus l) f g k = IsSlowerBelow (value_at f) (λ t. Fin l) (rate f) (Fin zero_q)
    (periods_after (steady f) k (own_period f)) (own_period f)
Meets (Scale q) f g k = Unit {0}
Meets (Shift x) f g k = Unit {0}
Meets RunSup f g k = (rise_over f (own_period f) ≡ zero_q)
    ⊎ IsCovered (value_at f) (periods_after (steady f) k (own_period f)) (own_period f) (steady f)
Meets RunInf f g k = Unit {0}
Meets (FifoLeft Inf) f g k = Unit {0}
Meets (FifoLeft (Fin theta)) f g k =
    IsSlowerBelow (value_at f) (λ t. value_at g (t -ℚ theta)) (rate f) (rate g)
    (periods_after (moved_steady f g theta) k (common_period f g)) (common_period f g)
Meets Convolve f g k = IsSlowerLateLeast f g (periods_after (steady f +ℚ steady g) (suc k) (common_period f g))
    (common_period f g)
Meets Deconvolve f g k = Unit {0}
Meets Horizontal f g k =
    IsConstantFrom (value_at f) (steady f)
    ⊎ (value_at g (steady g) <ₑ value_at f (periods_after (steady f) k (common_period f g)))
Meets Vertical f g k = Unit {0}
Meets Itself f g k = Unit {0}

-- of the horizontal deviation: m periods past the time after which no gap is larger, g has reached f
abbrev pub Reaches : OpKind → SpecCurve → SpecCurve → ℕ → ℕ → Type 0
Reaches Horizontal f g k m =
    let start = periods_after (steady f) (suc k) (common_period f g) in
    value_at f start ≤ₑ value_at g (periods_after start m (common_period f g))
Reaches op f g k m = Unit {0}

-- k is the least number with the property
pub record IsLeast (P : ℕ → Type 0) (k : ℕ) : Type 0 where
  pub meets : P k
  pub least : (i : ℕ) → i < k → ¬ (P i)

-- the numbers of periods of a call: 0 where its kind needs none
pub record IsLeastPeriods (op : OpKind) (f g : SpecCurve) (k m : ℕ) : Type 0 where
  pub first : IsLeast (Meets op f g) k
  pub second : IsLeast (Reaches op f g k) m
