-- From when on a convolution is the part in which the slower curve repeats. (Bouillard, Boyer and Le Corronc: the
-- convolution of two curves repeats with the smaller of their rates.)
use Rattle.std.specs.Prelude.{◌≡◌, ℕ, pos}
use Rattle.rational.specs.Rational.{ℚ, ◌+ℚ◌, ◌≤ℚ◌, ◌<ℚ◌, int}
use Rattle.rational.specs.Grid.{Whole}
use Rattle.rational.specs.Extended.{Ext, ◌<ₑ◌}
use Rattle.upp_curve.specs.Curve.{SpecCurve, value_at}
use Rattle.min_plus.specs.Convolution.{IsConvolution}
use Rattle.upp_curve.specs.Steady.{steady, rate, IsWholePeriods}
use Rattle.upp_limits.specs.Periods.{periods_after}
use Rattle.upp_limits.specs.Windows.{IsLateLeastFor, IsSlowerLateLeast, IsLeast}
use Rattle.curve_conv.specs.Parts.{IsPart, FirstLate}
use Rattle.curve_conv.specs.Scans.{sizes_in, IsScan}

-- on [from, from + d) the part in which `slow` repeats has the least sums, and its value is that of the convolution
pub record IsLateIn (slow fast : SpecCurve) (from d : ℚ) : Type 0 where
  pub least : IsLateLeastFor slow fast from d
  pub value : (t : ℚ) → from ≤ℚ t → t <ℚ from +ℚ d → (v : Ext) → IsConvolution (value_at slow) (value_at fast) t v
      → IsPart (value_at slow) (value_at fast) (FirstLate (steady slow)) t v

-- so of the slower of two curves; of equal rates nothing is asked
pub record IsSlowerLate (f g : SpecCurve) (from d : ℚ) : Type 0 where
  pub first : rate f <ₑ rate g → IsLateIn f g from d
  pub second : rate g <ₑ rate f → IsLateIn g f from d

-- k periods after `from`, for a period
abbrev pub IsLateAfter : SpecCurve → SpecCurve → ℚ → ℚ → ℕ → Type 0
IsLateAfter slow fast from d k = IsLateLeastFor slow fast (periods_after from k d) d

-- k is the least number of periods after which it is so
pub record IsLateNumber (slow fast : SpecCurve) (from d : ℚ) (k : ℕ) : Type 0 where
  pub least : IsLeast (IsLateAfter slow fast from d) k
  pub late : IsLateIn slow fast (periods_after from k d) d

-- two curves of which the first is the slower, one common period after the sum of the times from when on they repeat,
-- and a period more up to the end of the window
pub record IsLateCall (slow fast : SpecCurve) (from d end : ℚ) : Type 0 where
  pub scan : IsScan slow fast end
  pub slower : rate slow <ₑ rate fast
  pub first : IsWholePeriods slow.tail d
  pub second : IsWholePeriods fast.tail d
  pub some : int (pos 0) <ℚ d
  pub whole : Whole (sizes_in slow fast end).dt d
  pub from_is : from ≡ steady slow +ℚ steady fast +ℚ d
  pub end_is : end ≡ from +ℚ d

-- k periods after `from`, for a period, of the slower of two curves; of equal rates nothing is asked
abbrev pub IsSlowerAfter : SpecCurve → SpecCurve → ℚ → ℚ → ℕ → Type 0
IsSlowerAfter f g from d k = IsSlowerLateLeast f g (periods_after from k d) d

-- k is the least number of periods after which it is so
pub record IsSlowerNumber (f g : SpecCurve) (from d : ℚ) (k : ℕ) : Type 0 where
  pub least : IsLeast (IsSlowerAfter f g from d) k
  pub late : IsSlowerLate f g (periods_after from k d) d

-- two curves of any rates, as such a call
pub record IsPartsCall (f g : SpecCurve) (from d end : ℚ) : Type 0 where
  pub scan : IsScan f g end
  pub first : IsWholePeriods f.tail d
  pub second : IsWholePeriods g.tail d
  pub some : int (pos 0) <ℚ d
  pub whole : Whole (sizes_in f g end).dt d
  pub from_is : from ≡ steady f +ℚ steady g +ℚ d
  pub end_is : end ≡ from +ℚ d
