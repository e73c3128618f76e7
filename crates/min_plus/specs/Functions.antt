-- Functions of time that may be infinite, the times from 0 on, and the words for their shapes. (Le Boudec and Thiran:
-- wide-sense increasing functions; here a function may also fall.)
use Rattle.std.specs.Prelude.{◌≡◌, ℕ, pos}
use Rattle.rational.specs.Rational.{ℚ, ◌≤ℚ◌, int}
use Rattle.rational.specs.Extended.{Ext, ◌≤ₑ◌}
use Rattle.rational.specs.declared.Extended.TheVariants.{Fin}

abbrev pub zero_q : ℚ
zero_q = int (pos 0)

-- a number as a rational
abbrev pub whole : ℕ → ℚ
whole n = int (pos n)

-- at least 0
abbrev pub IsNonneg : Ext → Type 0
IsNonneg x = Fin zero_q ≤ₑ x

-- ---- times
-- a time from 0 on
pub record Time : Type 0 where
  pub at : ℚ
  pub nonneg : zero_q ≤ℚ at

-- a time from 0 to t, both included
pub record UpTo (t : ℚ) : Type 0 where
  pub at : ℚ
  pub nonneg : zero_q ≤ℚ at
  pub most : at ≤ℚ t

-- a time from t on, t included
pub record From (t : ℚ) : Type 0 where
  pub at : ℚ
  pub least : t ≤ℚ at

-- a time from 0 on at which g is finite, and its value
pub record FiniteTime (g : ℚ → Ext) : Type 0 where
  pub at : ℚ
  pub nonneg : zero_q ≤ℚ at
  pub level : ℚ
  pub is : g at ≡ Fin level

-- ---- shapes
-- the value at each time is a number
abbrev pub IsFinite : (ℚ → Ext) → Type 0
IsFinite f = (t : ℚ) → zero_q ≤ℚ t → (level : ℚ) × (f t ≡ Fin level)

-- it never falls
abbrev pub IsRising : (ℚ → Ext) → Type 0
IsRising f = (s t : ℚ) → zero_q ≤ℚ s → s ≤ℚ t → f s ≤ₑ f t

-- it is nowhere below 0
abbrev pub IsNonnegative : (ℚ → Ext) → Type 0
IsNonnegative f = (t : ℚ) → zero_q ≤ℚ t → Fin zero_q ≤ₑ f t
