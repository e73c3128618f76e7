-- A curve of the tests that never falls is nowhere below its start.
use Rattle.std.specs.Prelude.{pos}
use Rattle.rational.specs.Rational.{ℚ, int}
use Rattle.rational.specs.Extended.{Ext, ◌≤ₑ◌}
use Rattle.rational.specs.declared.Extended.TheVariants.{Fin}
use Rattle.rational.proofs.ExtendedOrder.{le_ext_trans}
use Rattle.rational.proofs.Laws.{le_refl}
use Rattle.min_plus.specs.Functions.{zero_q, IsRising, IsNonnegative}

pub rising_nonneg : (f : ℚ → Ext) → IsRising f → Fin (int (pos 0)) ≤ₑ f (int (pos 0)) → IsNonnegative f
rising_nonneg f rises start t low =
    le_ext_trans (Fin zero_q) (f zero_q) (f t) start (rises zero_q t (le_refl zero_q) low)
