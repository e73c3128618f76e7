-- Operators whose answer at a time is made of the operands' values at one time.
-- (Le Boudec and Thiran, chapter 3; what is said of infinity in a difference and a product is our own choice.)
use Rattle.std.specs.Prelude.{◌≡◌}
use Rattle.rational.specs.Rational.{ℚ, ◌+ℚ◌, ◌-ℚ◌, ◌*ℚ◌}
use Rattle.rational.specs.MinMax.{max_q}
use Rattle.rational.specs.Extended.{Ext, ◌+ₑ◌, min_ext, max_ext}
use Rattle.rational.specs.declared.Extended.TheVariants.{Fin, Inf}
use Rattle.min_plus.specs.Functions.{zero_q}

-- the sum of the two values; infinite where one is
abbrev pub IsSum : (ℚ → Ext) → (ℚ → Ext) → ℚ → Ext → Type 0
IsSum f g t v = v ≡ f t +ₑ g t

-- the lesser of the two values
abbrev pub IsMinimum : (ℚ → Ext) → (ℚ → Ext) → ℚ → Ext → Type 0
IsMinimum f g t v = v ≡ min_ext (f t) (g t)

-- the greater of the two values
abbrev pub IsMaximum : (ℚ → Ext) → (ℚ → Ext) → ℚ → Ext → Type 0
IsMaximum f g t v = v ≡ max_ext (f t) (g t)

-- the greater of 0 and x - y; 0 where y is infinite
abbrev pub excess : Ext → Ext → Ext
excess x Inf = Fin zero_q
excess Inf (Fin y) = Inf
excess (Fin x) (Fin y) = Fin (max_q zero_q (x -ℚ y))

-- the greater of 0 and f - g; 0 where g is infinite
abbrev pub IsPositiveDifference : (ℚ → Ext) → (ℚ → Ext) → ℚ → Ext → Type 0
IsPositiveDifference f g t v = v ≡ excess (f t) (g t)

-- g with one packet of l bits taken off: the greater of 0 and g - l
abbrev pub packetised : (ℚ → Ext) → ℚ → ℚ → Ext
packetised g l t = excess (g t) (Fin l)

-- the greater of 0 and f - l
abbrev pub IsPositiveMinus : (ℚ → Ext) → ℚ → ℚ → Ext → Type 0
IsPositiveMinus f l t v = v ≡ packetised f l t

-- k times a value; infinity stays infinity, also 0 times
abbrev pub scaled : ℚ → Ext → Ext
scaled k Inf = Inf
scaled k (Fin x) = Fin (k *ℚ x)

abbrev pub IsScaled : (ℚ → Ext) → ℚ → ℚ → Ext → Type 0
IsScaled f k t v = v ≡ scaled k (f t)

-- f as it is d later; infinity where d is infinite
abbrev pub shifted : (ℚ → Ext) → Ext → ℚ → Ext
shifted f Inf t = Inf
shifted f (Fin d) t = f (t +ℚ d)

abbrev pub IsShift : (ℚ → Ext) → Ext → ℚ → Ext → Type 0
IsShift f d t v = v ≡ shifted f d t
