use Rattle.std.proofs.Common.{subst}
use Rattle.rational.specs.Rational.{◌≤ℚ◌}
use Rattle.rational.proofs.Laws.{le_of_not_lt}
use Rattle.upp_curve.specs.affine_segment.Values.{line_at}
use Rattle.subadd_closure.proofs.QuickCurves.{not_less}
use Rattle.subadd_closure.proofs.idle_parts.is_up.Goals as goal

pub returns-in-Some : goal.returns-in-Some
returns-in-Some c told =
    subst (λ x. x ≤ℚ line_at c.args.line.now c.args.x) c.zero.ensures
    (subst (λ y. c.zero.result ≤ℚ y) c.in-Some.ensures.value
    (le_of_not_lt (not_less c.is_less.result told c.is_less.ensures.less)))
