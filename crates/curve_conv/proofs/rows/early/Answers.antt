use Rattle.std.proofs.Common.{sym, subst, true≢false}
use Rattle.rational.specs.Rational.{◌≤ℚ◌}
use Rattle.rational.proofs.Laws.{le_of_not_lt}
use Rattle.upp_normal.specs.Ahead.{AtNext}
use Rattle.curve_conv.proofs.rows.early.Goals as goal

pub returns-else-is_less : goal.returns-else-is_less
returns-else-is_less c = subst (AtNext (λ x. c.args.limit ≤ℚ x)) (sym c.in-Some.is) (le_of_not_lt (λ h. true≢false (sym (c.if-is_less.ensures.less.1 h))))
