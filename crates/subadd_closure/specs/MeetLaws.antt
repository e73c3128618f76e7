-- How many stretches end before the next begins.
use Rattle.rational.specs.Rational.{ℚ, ◌-ℚ◌, ◌/ℚ◌, ◌≤ℚ◌, ◌<ℚ◌}
use Rattle.rational.specs.Whole.{whole_part}
use Rattle.rational.specs.declared.Extended.TheVariants.{Fin, Inf}
use Rattle.min_plus.specs.Functions.{zero_q}
use Rattle.subadd_closure.specs.ElementCurves.{IsStretch}

-- as many as the length of a stretch goes whole times into its start; without an end there is none
pub record StretchesMeet : Type 0 where
  pub ended : (a b : ℚ) → zero_q ≤ℚ a → a <ℚ b → IsStretch a (Fin b) (whole_part (a /ℚ (b -ℚ a)))
  pub endless : (a : ℚ) → zero_q ≤ℚ a → IsStretch a Inf 0
