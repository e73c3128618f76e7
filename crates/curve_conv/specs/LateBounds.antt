-- Two numbers that the least number of periods of a convolution is between, and what they are reckoned from: what each
-- curve does in one period of its own, and before it. (Le Boudec and Thiran: a curve that repeats lies between two lines
-- of its rate.)
use Rattle.std.specs.Prelude.{◌≡◌, ℕ, ◌≤◌, pos}
use Rattle.rational.specs.Rational.{ℚ, ◌+ℚ◌, int}
use Rattle.rational.specs.Extended.{Ext, ◌≤ₑ◌, ◌+ₑ◌}
use Rattle.rational.specs.declared.Extended.TheVariants.{Fin}
use Rattle.upp_curve.specs.Curve.{SpecCurve, value_at}
use Rattle.upp_curve.specs.Steady.{steady, rise_over}
use Rattle.upp_limits.specs.Periods.{periods_after}
use Rattle.curve_call.specs.declared.bounds.Bounds.{Bounds}
use Rattle.curve_call.specs.Bounds.{own_or}
use Rattle.curve_call.specs.Gaps.{InWindow}
use Rattle.curve_conv.specs.declared.extremes.Extremes.{Extremes}
use Rattle.curve_conv.specs.Late.{IsLateIn, IsLateNumber, IsSlowerLate, IsSlowerNumber}

-- ---- over some times
-- f is nowhere above q
abbrev pub IsTop : (ℚ → Ext) → ℚ → ℚ → ℚ → Type 0
IsTop f from end q = (t : ℚ) → InWindow from end t → f t ≤ₑ Fin q

-- 0 is nowhere more than q above f
abbrev pub IsDepth : (ℚ → Ext) → ℚ → ℚ → ℚ → Type 0
IsDepth f from end q = (t : ℚ) → InWindow from end t → Fin (int (pos 0)) ≤ₑ f t +ₑ Fin q

-- ---- of two functions, of which f repeats from x on with the period p, and g from y on with q, by b
pub record AreExtremes (f g : ℚ → Ext) (x p y q b : ℚ) (e : Extremes) : Type 0 where
  pub slow_top : IsTop f x (x +ℚ p) e.slow_top
  pub slow_depth : IsDepth f (int (pos 0)) (x +ℚ p) e.slow_depth
  pub fast_depth : IsDepth g y (y +ℚ q) e.fast_depth
  pub fast_start : g y ≡ Fin e.fast_start
  pub fast_rise : e.fast_rise ≡ b

-- of two curves, whose common period is d
abbrev pub AreCurveExtremes : SpecCurve → SpecCurve → ℚ → Extremes → Type 0
AreCurveExtremes slow fast d e =
    AreExtremes (value_at slow) (value_at fast) (steady slow) (own_or d slow) (steady fast) (own_or d fast)
    (rise_over fast (own_or d fast)) e

-- what the part in which the slower one repeats is at most above the part before, one common period after both repeat,
-- and what the faster one gains in that period
abbrev pub most_gap : Extremes → ℚ
most_gap e = e.slow_top +ℚ e.slow_depth +ℚ e.fast_depth +ℚ e.fast_start +ℚ e.fast_rise

-- ---- the bounds
-- there is a least number of periods, it is from b.low to b.high, and b.high periods are enough too
pub record IsLateBounds (slow fast : SpecCurve) (from d : ℚ) (b : Bounds) : Type 0 where
  pub number : ℕ
  pub is : IsLateNumber slow fast from d number
  pub low : b.low ≤ number
  pub high : number ≤ b.high
  pub late : IsLateIn slow fast (periods_after from b.high d) d

-- of two curves of any rates
pub record IsSlowerBounds (f g : SpecCurve) (from d : ℚ) (b : Bounds) : Type 0 where
  pub number : ℕ
  pub is : IsSlowerNumber f g from d number
  pub low : b.low ≤ number
  pub high : number ≤ b.high
  pub late : IsSlowerLate f g (periods_after from b.high d) d
