use Rattle.std.proofs.Common.{sym, subst, true≢false}
use Rattle.rational.specs.Rational.{ℚ, ◌≤ℚ◌}
use Rattle.rational.proofs.Laws.{le_of_not_lt}
use Rattle.flow_watch.proofs.step_lines.places.is_within.Goals as goal

pub returns : goal.returns
returns c = λ yes. subst (λ (x : ℚ). c.args.lead ≤ℚ x) c.in-Ok.ensures.value (le_of_not_lt (λ h. true≢false (sym (c.if-is_less.ensures.less.1 h))))
