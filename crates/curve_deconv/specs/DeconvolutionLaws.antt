-- What a deconvolution keeps of its first operand. (Le Boudec and Thiran, chapter 3: the output of a rising curve
-- rises; that it is finite for finite curves of which the first is not the faster is folklore.)
use Rattle.std.specs.Prelude.{◌≡◌}
use Rattle.rational.specs.Rational.{ℚ, ◌≤ℚ◌}
use Rattle.rational.specs.Extended.{Ext, ◌≤ₑ◌, ◌<ₑ◌, ◌-ₑ◌}
use Rattle.rational.specs.declared.Extended.TheVariants.{Fin}
use Rattle.upp_curve.specs.Curve.{SpecCurve, value_at}
use Rattle.upp_curve.specs.Curves.{IsCurve}
use Rattle.min_plus.specs.Functions.{zero_q, IsFinite, IsRising, IsNonnegative}
use Rattle.upp_curve.specs.Steady.{rate}
use Rattle.min_plus.specs.Convolution.{IsDeconvolution}

-- h is the deconvolution at each time from 0 on
abbrev pub IsDeconvolved : (ℚ → Ext) → (ℚ → Ext) → (ℚ → Ext) → Type 0
IsDeconvolved f g h = (t : ℚ) → zero_q ≤ℚ t → IsDeconvolution f g t (h t)

-- of any functions: it rises with the first; it is at least the first less the second's value at 0; and so it is
-- nowhere below 0 where the first is not, and the second is at most 0 at 0
pub record DeconvolutionKeeps : Type 0 where
  pub rising : (f g h : ℚ → Ext) → IsDeconvolved f g h → IsRising f → IsRising h
  pub above : (f g h : ℚ → Ext) (level : ℚ) → IsDeconvolved f g h → g zero_q ≡ Fin level
      → (t : ℚ) → zero_q ≤ℚ t → f t -ₑ level ≤ₑ h t
  pub nonnegative : (f g h : ℚ → Ext) (level : ℚ) → IsDeconvolved f g h → g zero_q ≡ Fin level → level ≤ℚ zero_q
      → IsNonnegative f → IsNonnegative h

-- of finite curves, the first not the faster: it is finite
abbrev pub DeconvolutionIsFinite : Type 0
DeconvolutionIsFinite =
    (f g : SpecCurve) (h : ℚ → Ext) → IsCurve f → IsCurve g → IsFinite (value_at f) → IsFinite (value_at g)
    → ¬ (rate g <ₑ rate f) → IsDeconvolved (value_at f) (value_at g) h → IsFinite h
