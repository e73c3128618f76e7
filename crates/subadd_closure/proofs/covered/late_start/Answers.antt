use Rattle.std.proofs.Common.{sym, subst, arith}
use Rattle.rational.specs.Rational.{◌<ℚ◌}
use Rattle.rational.proofs.Integers.{nat_lt}
use Rattle.min_plus.specs.Functions.{zero_q}
use Rattle.subadd_closure.proofs.covered.late_start.Goals as goal

pub returns-then-elements-lt2 : goal.returns-then-elements-lt2
returns-then-elements-lt2 c = subst (λ z. zero_q <ℚ z) (sym c.one.ensures) (nat_lt 0 1 (omega arith))

pub returns-then-is_less : goal.returns-then-is_less
returns-then-is_less c =
    subst (λ z. z <ℚ c.start_of-start.result) c.zero.ensures (c.is_less.ensures.less.0 c.if-is_less.true)

pub returns : goal.returns
returns c = subst (λ z. zero_q <ℚ z) (sym c.one-2.ensures) (nat_lt 0 1 (omega arith))
