-- Which step of arithmetic was too wide: each names the step, and says that its numbers do not fit. Own choice.
use Rattle.std.specs.Prelude.{◌≡◌, ◌⊎◌}
use Rattle.rational.specs.Rational.{ℚ, ◌-ℚ◌, ◌*ℚ◌, ◌/ℚ◌, neg_ℚ}
use Rattle.rational.specs.Ratio.{IsSmall, SumFits}
use Rattle.fraction128.specs.declared.fault.Op.TheVariants.{Add, Sub, Mul, Div}
use Rattle.fraction128.specs.declared.fault.Wide.{Wide}
use Rattle.fraction128.specs.Fits.{wide_step}
use Rattle.upp_curve.specs.declared.affine_segment.line.Line.{Line}

-- ---- one step
abbrev pub IsWideSum : ℚ → ℚ → Wide → Type 0
IsWideSum x y w = (w ≡ wide_step Add x y) × ¬ (SumFits x y)

abbrev pub IsWideDifference : ℚ → ℚ → Wide → Type 0
IsWideDifference x y w = (w ≡ wide_step Sub x y) × ¬ (SumFits x (neg_ℚ y))

abbrev pub IsWideProduct : ℚ → ℚ → Wide → Type 0
IsWideProduct x y w = (w ≡ wide_step Mul x y) × ¬ (IsSmall (x *ℚ y))

abbrev pub IsWideQuotient : ℚ → ℚ → Wide → Type 0
IsWideQuotient x y w = (w ≡ wide_step Div x y) × ¬ (IsSmall (x /ℚ y))

-- ---- the steps of a line's value at t: slope times t, and the sum of the value at 0 with that
abbrev pub IsWideValue : Line → ℚ → Wide → Type 0
IsWideValue l t w = IsWideProduct l.slope t w ⊎ IsWideSum l.icept (l.slope *ℚ t) w

-- ---- the steps of the time at which two lines meet: the difference of their values at 0, that of their slopes, and
-- the quotient of the two
abbrev pub IsWideCross : Line → Line → Wide → Type 0
IsWideCross a b w =
    IsWideDifference b.icept a.icept w ⊎ IsWideDifference a.slope b.slope w
    ⊎ IsWideQuotient (b.icept -ℚ a.icept) (a.slope -ℚ b.slope) w
