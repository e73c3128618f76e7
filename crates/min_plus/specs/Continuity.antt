-- Continuous functions of time (textbook).
use Rattle.rational.specs.Rational.{ℚ, ◌+ℚ◌, ◌≤ℚ◌, ◌<ℚ◌}
use Rattle.rational.specs.Extended.{Ext, ◌≤ₑ◌, ◌+ₑ◌}
use Rattle.rational.specs.declared.Extended.TheVariants.{Fin}
use Rattle.min_plus.specs.Functions.{zero_q}

-- two values are no further apart than e; infinity is near itself alone
pub record AreNear (v w : Ext) (e : ℚ) : Type 0 where
  pub first : v ≤ₑ w +ₑ Fin e
  pub second : w ≤ₑ v +ₑ Fin e

-- at all times from 0 on that are no further than d from t the value is near that at t
pub record IsNearAround (f : ℚ → Ext) (t e d : ℚ) : Type 0 where
  pub some : zero_q <ℚ d
  pub near : (s : ℚ) → zero_q ≤ℚ s → s ≤ℚ t +ℚ d → t ≤ℚ s +ℚ d → AreNear (f s) (f t) e

-- at each time from 0 on, however near is asked, there is such a distance
abbrev pub IsContinuous : (ℚ → Ext) → Type 0
IsContinuous f = (t e : ℚ) → zero_q ≤ℚ t → zero_q <ℚ e → (d : ℚ) × IsNearAround f t e d
