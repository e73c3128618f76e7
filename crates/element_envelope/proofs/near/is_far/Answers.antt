use Rattle.std.proofs.Common.{subst}
use Rattle.rational.specs.Rational.{◌≤ℚ◌}
use Rattle.rational.proofs.Compared.{not_less_out}
use Rattle.element_envelope.proofs.StartTests.{is_false}
use Rattle.element_envelope.proofs.near.is_far.Goals as goal

pub returns-in-Some : goal.returns-in-Some
returns-in-Some c h = record {
  first = c.in-Fin.first;
  second = c.in-Fin-at.second;
  first_is = c.in-Fin.is;
  second_is = c.in-Fin-at.is;
  late = c.is_less.ensures.less.0 c.if-not-is_less.false;
  above = subst (λ z. z ≤ℚ c.in-Fin-at.second) c.in-Some.ensures
      (not_less_out c.is_less-in-Some.result c.in-Fin-at.second c.in-Some.high c.is_less-in-Some.ensures.less (is_false c.is_less-in-Some.result h));
}
