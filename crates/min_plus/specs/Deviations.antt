-- How far one function lies from another. (Le Boudec and Thiran, chapter 3: of an arrival curve and a service curve the
-- horizontal deviation bounds the delay, and the vertical deviation the backlog.)
use Rattle.std.specs.Prelude.{◌≡◌}
use Rattle.rational.specs.Rational.{ℚ, ◌+ℚ◌, ◌≤ℚ◌}
use Rattle.rational.specs.Extended.{Ext, ◌≤ₑ◌, ◌-ₑ◌}
use Rattle.rational.specs.Bounds.{IsInfimum, IsSupremum}
use Rattle.rational.specs.declared.Extended.TheVariants.{Fin}
use Rattle.min_plus.specs.Functions.{zero_q, Time, FiniteTime}

-- v is the supremum of f - g over the times from 0 on at which g is finite
abbrev pub IsVerticalDeviation : (ℚ → Ext) → (ℚ → Ext) → Ext → Type 0
IsVerticalDeviation f g v = IsSupremum {I = FiniteTime g} (λ t. f t.at -ₑ t.level) v

-- a wait after t at whose end g is at least f (t)
pub record Lag (f g : ℚ → Ext) (t : ℚ) : Type 0 where
  pub after : ℚ
  pub nonneg : zero_q ≤ℚ after
  pub reached : f t ≤ₑ g (t +ℚ after)

-- x is the infimum of these waits, infinity where there is none
abbrev pub IsLag : (ℚ → Ext) → (ℚ → Ext) → ℚ → Ext → Type 0
IsLag f g t x = IsInfimum {I = Lag f g t} (λ a. Fin a.after) x

-- each time from 0 on has such an infimum, and h is their supremum
pub record IsHorizontalDeviation (f g : ℚ → Ext) (h : Ext) : Type 0 where
  pub lag : Time → Ext
  pub is_lag : (t : Time) → IsLag f g t.at (lag t)
  pub is : IsSupremum {I = Time} lag h

-- two functions have one horizontal deviation and one vertical deviation
abbrev pub DeviationsAreUnique : Type 0
DeviationsAreUnique = (f g : ℚ → Ext) (x y : Ext) →
    (IsHorizontalDeviation f g x → IsHorizontalDeviation f g y → x ≡ y)
    × (IsVerticalDeviation f g x → IsVerticalDeviation f g y → x ≡ y)
