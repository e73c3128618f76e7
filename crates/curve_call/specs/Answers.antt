-- What each kind of call makes of its operands, value by value; and what it is that a curve is made by a call. (The
-- kinds are those of Le Boudec and Thiran, chapter 3, and of the residual services; one word for all of them is own
-- choice.)
use Rattle.rational.specs.Rational.{ℚ, ◌≤ℚ◌}
use Rattle.rational.specs.Extended.{Ext}
use Rattle.upp_limits.specs.declared.op_kind.OpKind.{OpKind}
use Rattle.upp_limits.specs.declared.op_kind.OpKind.TheVariants.{Sum, Min, Max, PosDiff, PosMinus, Scale, Shift, RunSup, RunInf, FifoLeft, Convolve, Deconvolve, Horizontal, Vertical, Itself}
use Rattle.upp_curve.specs.Curve.{SpecCurve, value_at}
use Rattle.upp_curve.specs.Curves.{IsCurve}
use Rattle.min_plus.specs.Functions.{zero_q}
use Rattle.min_plus.specs.Pointwise.{IsSum, IsMinimum, IsMaximum, IsPositiveDifference, IsPositiveMinus, IsScaled, IsShift}
use Rattle.min_plus.specs.Running.{IsRunningSupremum, IsRunningInfimum, IsFifoLeftover}
use Rattle.min_plus.specs.Convolution.{IsConvolution, IsDeconvolution}

-- v is the answer at t for the operands f and g; the last three kinds make no curve
abbrev pub IsAnswer : OpKind → (ℚ → Ext) → (ℚ → Ext) → ℚ → Ext → Type 0
IsAnswer Sum f g t v = IsSum f g t v
IsAnswer Min f g t v = IsMinimum f g t v
IsAnswer Max f g t v = IsMaximum f g t v
IsAnswer PosDiff f g t v = IsPositiveDifference f g t v
IsAnswer (PosMinus l) f g t v = IsPositiveMinus f l t v
IsAnswer (Scale q) f g t v = IsScaled f q t v
IsAnswer (Shift x) f g t v = IsShift f x t v
IsAnswer RunSup f g t v = IsRunningSupremum f t v
IsAnswer RunInf f g t v = IsRunningInfimum f t v
IsAnswer (FifoLeft theta) f g t v = IsFifoLeftover f g theta t v
IsAnswer Convolve f g t v = IsConvolution f g t v
IsAnswer Deconvolve f g t v = IsDeconvolution f g t v
IsAnswer Horizontal f g t v = ⊥
IsAnswer Vertical f g t v = ⊥
IsAnswer Itself f g t v = ⊥

-- h is a curve that has the answer at each time from 0 on
pub record IsMadeBy (op : OpKind) (f g h : SpecCurve) : Type 0 where
  pub curve : IsCurve h
  pub answers : (t : ℚ) → zero_q ≤ℚ t → IsAnswer op (value_at f) (value_at g) t (value_at h t)
