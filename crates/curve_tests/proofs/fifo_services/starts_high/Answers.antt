use Rattle.std.proofs.Common.{subst, sym}
use Rattle.rational.specs.Rational.{◌≤ℚ◌}
use Rattle.rational.proofs.Laws.{le_refl}
use Rattle.min_plus.specs.Functions.{zero_q}
use Rattle.curve_tests.proofs.fifo_services.starts_high.Goals as goal

pub value_at-requires : goal.value_at-requires
value_at-requires c = subst (λ z. zero_q ≤ℚ z) (sym c.zero.ensures) (le_refl zero_q)
