-- How far up the part of a convolution reaches in which the slower of two curves repeats, and how far down what is before
-- that: this bounds the number of periods in the fold of a closure, whose curves may be infinite again and again. (Le
-- Boudec and Thiran: a curve that repeats lies between two lines of its rate.)
use Rattle.std.specs.Prelude.{◌≡◌}
use Rattle.rational.specs.Rational.{ℚ, ◌+ℚ◌, ◌-ℚ◌, ◌*ℚ◌, ◌≤ℚ◌, ◌<ℚ◌}
use Rattle.rational.specs.Extended.{Ext, ◌≤ₑ◌, ◌+ₑ◌}
use Rattle.rational.specs.declared.Extended.TheVariants.{Fin, Inf}
use Rattle.min_plus.specs.Convolution.{Split}
use Rattle.min_plus.specs.Functions.{zero_q}
use Rattle.upp_curve.specs.Curve.{SpecCurve, value_at}
use Rattle.upp_curve.specs.Steady.{steady, rate, rise_over}
use Rattle.curve_call.specs.Bounds.{own_or, IsFiniteLate}
use Rattle.curve_conv.specs.LateBounds.{IsDepth}

-- ---- up
-- a split of t of which the first side is x or later makes at most the line through `level` at x + y, of the slope r
pub record Reaches (f g : ℚ → Ext) (x y r level t : ℚ) : Type 0 where
  pub split : Split t
  pub late : x ≤ℚ split.first
  pub most : f split.first +ₑ g split.second ≤ₑ Fin (level +ℚ r *ℚ (t -ℚ y -ℚ x))

-- so for two curves, with the rate of the slower one, from a common period after both repeat on
abbrev pub IsLevel : SpecCurve → SpecCurve → ℚ → ℚ → Type 0
IsLevel slow fast d level = (r t : ℚ) → rate slow ≡ Fin r → zero_q ≤ℚ r → steady slow +ℚ steady fast +ℚ d ≤ℚ t
    → Reaches (value_at slow) (value_at fast) (steady slow) (steady fast) r level t

-- ---- down
-- by how much 0 is at most above the slower curve, up to the end of its first period, and above the faster one in its
-- own, and what that gains in it
pub record IsFloor (slow fast : SpecCurve) (d floor : ℚ) : Type 0 where
  pub slow_depth : ℚ
  pub fast_depth : ℚ
  pub slow_is : IsDepth (value_at slow) zero_q (steady slow +ℚ own_or d slow) slow_depth
  pub fast_is : IsDepth (value_at fast) (steady fast) (steady fast +ℚ own_or d fast) fast_depth
  pub finite : IsFiniteLate (steady fast) fast
  pub sum : floor ≡ slow_depth +ℚ fast_depth +ℚ rise_over fast (own_or d fast)

-- the curve is infinite up to when it repeats
abbrev pub BeginsLate : SpecCurve → Type 0
BeginsLate c = (t : ℚ) → t <ℚ steady c → value_at c t ≡ Inf
