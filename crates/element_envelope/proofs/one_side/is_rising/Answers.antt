use Rattle.std.proofs.Common.{sym, subst}
use Rattle.rational.specs.Rational.{◌≤ℚ◌}
use Rattle.rational.proofs.Compared.{not_less_out}
use Rattle.upp_curve.specs.Shapes.{LineRises}
use Rattle.element_envelope.proofs.StartTests.{is_false}
use Rattle.element_envelope.proofs.one_side.is_rising.Goals as goal

pub returns-in-Some : goal.returns-in-Some
returns-in-Some c h =
    subst LineRises (sym c.in-Some.is)
    (subst (λ z. z ≤ℚ c.in-Some.line.slope) c.zero.ensures (not_less_out c.is_less.result c.in-Some.line.slope c.zero.result c.is_less.ensures.less (is_false c.is_less.result h)))
