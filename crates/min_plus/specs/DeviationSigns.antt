-- When a deviation is at least 0. (Le Boudec and Thiran, chapter 3.)
use Rattle.std.specs.Prelude.{◌≡◌}
use Rattle.rational.specs.Rational.{ℚ}
use Rattle.rational.specs.Extended.{Ext, ◌≤ₑ◌, ◌-ₑ◌}
use Rattle.rational.specs.declared.Extended.TheVariants.{Fin}
use Rattle.min_plus.specs.Functions.{zero_q}
use Rattle.min_plus.specs.Deviations.{IsHorizontalDeviation, IsVerticalDeviation}

-- no delay is below 0
abbrev pub HorizontalsAreNonnegative : Type 0
HorizontalsAreNonnegative = (f g : ℚ → Ext) (h : Ext) → IsHorizontalDeviation f g h → Fin zero_q ≤ₑ h

-- no backlog is below 0 of an f that at 0 is at least g
abbrev pub VerticalsAreNonnegative : Type 0
VerticalsAreNonnegative = (f g : ℚ → Ext) (level : ℚ) (v : Ext) → g zero_q ≡ Fin level
    → Fin zero_q ≤ₑ f zero_q -ₑ level → IsVerticalDeviation f g v → Fin zero_q ≤ₑ v
