-- The running bounds of a function, and what first in, first out leaves of a service.
-- (Le Boudec and Thiran, chapter 3 and the residual service of a first in, first out queue, chapter 6.)
use Rattle.std.specs.Prelude.{◌≡◌, cond}
use Rattle.rational.specs.Rational.{ℚ, ◌-ℚ◌, le_q}
use Rattle.rational.specs.Extended.{Ext}
use Rattle.rational.specs.Bounds.{IsInfimum, IsSupremum}
use Rattle.rational.specs.declared.Extended.TheVariants.{Fin, Inf}
use Rattle.min_plus.specs.Functions.{zero_q, UpTo, From}
use Rattle.min_plus.specs.Pointwise.{excess}

-- v is the supremum of f over the times from 0 to t, t included
abbrev pub IsRunningSupremum : (ℚ → Ext) → ℚ → Ext → Type 0
IsRunningSupremum f t v = IsSupremum {I = UpTo t} (λ s. f s.at) v

-- v is the infimum of f over the times from t on, t included
abbrev pub IsRunningInfimum : (ℚ → Ext) → ℚ → Ext → Type 0
IsRunningInfimum f t v = IsInfimum {I = From t} (λ x. f x.at) v

-- what beta leaves when `cross`, moved right by theta, is served first: 0 up to theta, theta included
unfoldable pub left_after : (ℚ → Ext) → (ℚ → Ext) → ℚ → ℚ → Ext
left_after beta cross theta x = cond (le_q x theta) (Fin zero_q) (excess (beta x) (cross (x -ℚ theta)))

-- the largest function that never falls and is nowhere above that; 0 where theta is infinite
abbrev pub IsFifoLeftover : (ℚ → Ext) → (ℚ → Ext) → Ext → ℚ → Ext → Type 0
IsFifoLeftover beta cross Inf t v = v ≡ Fin zero_q
IsFifoLeftover beta cross (Fin theta) t v = IsRunningInfimum (left_after beta cross theta) t v
