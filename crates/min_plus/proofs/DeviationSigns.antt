-- A deviation is at least that at the time 0, which is at least 0.
use Rattle.rational.specs.Extended.{◌-ₑ◌}
use Rattle.rational.specs.declared.Extended.TheVariants.{Fin}
use Rattle.rational.proofs.Bounds.{greatest}
use Rattle.rational.proofs.ExtendedOrder.{le_ext_trans}
use Rattle.rational.proofs.Laws.{le_refl}
use Rattle.min_plus.specs.Functions.{zero_q, FiniteTime, Time}
use Rattle.min_plus.specs.Deviations.{Lag}
use Rattle.min_plus.specs.DeviationSigns.{HorizontalsAreNonnegative, VerticalsAreNonnegative}

start : Time
start = record { at = zero_q; nonneg = le_refl zero_q }

pub horizontals_are_nonnegative : HorizontalsAreNonnegative
horizontals_are_nonnegative = λ f g h d.
    le_ext_trans (Fin zero_q) (d.lag start) h (greatest {I = Lag f g start.at} (λ a. Fin a.after) (d.lag start) (Fin zero_q) (d.is_lag start) (λ a. a.nonneg)) (d.is.above start)

pub verticals_are_nonnegative : VerticalsAreNonnegative
verticals_are_nonnegative = λ f g level v e l d.
    let t : FiniteTime g = record { at = zero_q; nonneg = le_refl zero_q; level = level; is = e } in
    le_ext_trans (Fin zero_q) (f zero_q -ₑ level) v l (d.above t)
