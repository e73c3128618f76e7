use Rattle.std.proofs.Common.{sym, subst, true≢false}
use Rattle.rational.specs.Rational.{◌≤ℚ◌}
use Rattle.rational.proofs.Laws.{le_of_not_lt}
use Rattle.curve_call.proofs.KnownGauge.{one_period, any_period}
use Rattle.curve_tests.proofs.inner_calls.repeats.Goals as goal

pub returns-in-Periodic : goal.returns-in-Periodic
returns-in-Periodic c = λ h. (
  subst (λ t. t ≤ℚ c.args.from) c.in-Some.ensures.value (le_of_not_lt (λ l. true≢false (sym (c.if-is_less.ensures.less.1 l)))),
  one_period c.args.c.now.tail c.tail.result.now c.in-Periodic.rank c.in-Periodic.own c.in-Periodic.rise c.args.period c.tail.ensures.tail c.in-Periodic.is (c.eq.ensures.same.0 h),
  c.tail.ensures.kept,
)

pub returns-in_default-tail : goal.returns-in_default-tail
returns-in_default-tail c = λ h. (
  subst (λ t. t ≤ℚ c.args.from) c.in-Some.ensures.value (le_of_not_lt (λ l. true≢false (sym (c.if-is_less.ensures.less.1 l)))),
  any_period c.args.c.now.tail c.tail.result.now c.args.period c.tail.ensures.tail c.in_default-tail.not-Periodic,
  c.tail.ensures.kept,
)
