-- By how much a cross arrival curve, served theta later, is above a service at its worst. Own choice.
use Rattle.std.specs.Prelude.{◌≡◌, ◌⊎◌}
use Rattle.rational.specs.Rational.{ℚ, ◌-ℚ◌, ◌≤ℚ◌}
use Rattle.rational.specs.Grid.{Whole}
use Rattle.rational.specs.Extended.{Ext, ◌+ₑ◌}
use Rattle.rational.specs.declared.Extended.TheVariants.{Fin}
use Rattle.upp_curve.specs.Curve.{SpecCurve, value_at}
use Rattle.min_plus.specs.Functions.{zero_q, IsFinite, IsRising, IsNonnegative}
use Rattle.min_plus.specs.Deviations.{IsHorizontalDeviation}
use Rattle.upp_limits.specs.Limits.{Sizes}
use Rattle.upp_normal.specs.Ahead.{HasWindow, IsTimeIn}
use Rattle.curve_call.specs.Gaps.{InWindow, IsWithin}
use Rattle.curve_call.specs.GapSteps.{IsGapValue}

-- g as it was theta earlier
abbrev pub moved : (ℚ → Ext) → ℚ → ℚ → Ext
moved g theta t = g (t -ℚ theta)

-- beta is finite, never falls and is nowhere below 0, and theta is the longest wait of cross in it
pub record IsServed (beta cross : ℚ → Ext) (theta : ℚ) : Type 0 where
  pub finite : IsFinite beta
  pub rising : IsRising beta
  pub nonneg : IsNonnegative beta
  pub deviation : IsHorizontalDeviation cross beta (Fin theta)

-- the sizes z hold both curves' numbers up to `end`, and `from` and theta stand on the grid of times
pub record IsBehindCall (z : Sizes) (f g : SpecCurve) (theta from end : ℚ) : Type 0 where
  pub served : IsServed (value_at f) (value_at g) theta
  pub first : HasWindow z end f
  pub second : HasWindow z end g
  pub time : IsTimeIn z end from
  pub theta_whole : Whole z.dt theta
  pub theta_low : zero_q ≤ℚ theta
  pub theta_early : theta ≤ℚ from

-- at some time of [from, end) g is q above f
pub record IsBehindAt (f g : ℚ → Ext) (from end q : ℚ) : Type 0 where
  pub at : ℚ
  pub among : InWindow from end at
  pub is : f at +ₑ Fin q ≡ g at

-- over [from, end) g is nowhere more than q above f; q is 0, or at some time it is so much
pub record IsMostBehind (f g : ℚ → Ext) (from end q : ℚ) : Type 0 where
  pub nonneg : zero_q ≤ℚ q
  pub above : IsWithin (InWindow from end) g f q
  pub near : (q ≡ zero_q) ⊎ IsBehindAt f g from end q

-- and it is a gap of two values
pub record IsMost (z : Sizes) (f g : ℚ → Ext) (from end q : ℚ) : Type 0 where
  pub most : IsMostBehind f g from end q
  pub size : IsGapValue z q
