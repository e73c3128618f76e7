use Rattle.std.specs.Prelude.{pos}
use Rattle.std.proofs.Common.{sym, subst, true≢false}
use Rattle.rational.specs.Rational.{◌≤ℚ◌, int}
use Rattle.rational.proofs.Integers.{nat_nonneg}
use Rattle.rational.proofs.Laws.{le_of_not_lt}
use Rattle.curve_tests.proofs.inner_calls.point.Goals as goal

pub point_closure-requires-clause-time : goal.point_closure-requires-clause-time
point_closure-requires-clause-time c =
    subst (λ y. y ≤ℚ c.args.time) c.zero.ensures (le_of_not_lt (λ h. true≢false (sym (c.if-is_less.ensures.less.1 h))))

pub point_closure-requires-clause-value : goal.point_closure-requires-clause-value
point_closure-requires-clause-value c = subst (λ x. int (pos 0) ≤ℚ x) (sym c.from_whole.ensures) (nat_nonneg 3)
