use Rattle.std.specs.Prelude.{pos}
use Rattle.std.proofs.Common.{sym, subst}
use Rattle.rational.specs.Rational.{◌≤ℚ◌, int}
use Rattle.rational.proofs.Integers.{nat_nonneg}
use Rattle.curve_tests.proofs.inner_calls.late_window.Goals as goal

pub joined_window-requires-clause-nonneg : goal.joined_window-requires-clause-nonneg
joined_window-requires-clause-nonneg c = subst (λ x. int (pos 0) ≤ℚ x) (sym c.one.ensures) (nat_nonneg 1)
