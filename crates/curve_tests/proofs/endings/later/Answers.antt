use Rattle.std.proofs.Common.{arith, subst, sym}
use Rattle.rational.specs.Rational.{◌≤ℚ◌}
use Rattle.rational.proofs.Integers.{nat_le}
use Rattle.min_plus.specs.Functions.{zero_q}
use Rattle.curve_tests.proofs.endings.later.Goals as goal

pub shift-requires : goal.shift-requires
shift-requires g c = subst (λ z. zero_q ≤ℚ z) (sym c.one.ensures) (nat_le 0 1 (omega arith))
