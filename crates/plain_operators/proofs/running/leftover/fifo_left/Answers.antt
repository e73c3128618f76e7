use Rattle.std.proofs.Common.{pos, IfOk, sym, subst}
use Rattle.rational.specs.Rational.{ℚ, ◌≤ℚ◌, int}
use Rattle.upp_curve.specs.Curve.{value_at}
use Rattle.min_plus.specs.Running.{IsFifoLeftover}
use Rattle.plain_operators.proofs.running.leftover.fifo_left.Goals as goal

pub returns-in-Fin-clause-value : goal.returns-in-Fin-clause-value
returns-in-Fin-clause-value g c =
    subst (λ x. IfOk c.left_after.result (λ a. (t : ℚ) → int (pos 0) ≤ℚ t → IsFifoLeftover (value_at c.args.beta.now) (value_at c.args.cross.now) x t (value_at a t))) (sym c.in-Fin.is) c.left_after.ensures.value
