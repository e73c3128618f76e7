use Rattle.std.proofs.Common.{refl, sym, subst}
use Rattle.rational.specs.Rational.{◌≤ℚ◌}
use Rattle.rational.proofs.Laws.{zero_mul}
use Rattle.subadd_closure.proofs.ordered.periods_for.Goals as goal

pub returns-then-is_at_most : goal.returns-then-is_at_most
returns-then-is_at_most c =
    let low = subst (λ y. c.args.gap ≤ℚ y) c.zero.ensures (c.if-is_at_most.ensures refl) in
    subst (λ y. c.args.gap ≤ℚ y) (sym (zero_mul c.args.period)) low
