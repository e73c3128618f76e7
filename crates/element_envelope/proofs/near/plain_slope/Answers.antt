use Rattle.std.proofs.Common.{subst}
use Rattle.rational.specs.Rational.{◌≤ℚ◌}
use Rattle.rational.proofs.Compared.{not_less_out}
use Rattle.rational.proofs.Laws.{le_refl}
use Rattle.element_envelope.proofs.near.plain_slope.Goals as goal

pub returns-else-is_less : goal.returns-else-is_less
returns-else-is_less c =
    let value = rw c.unwrap.ensures at c.value.ensures.value in
    record {
      line = c.in-Some.line;
      line_is = c.in-Some.is;
      value = c.in-Fin.v;
      at_is = c.in-Fin.is;
      after = subst (λ z. z ≤ℚ c.in-Fin.v) value (not_less_out c.is_less.result c.in-Fin.v c.unwrap.result c.is_less.ensures.less c.if-is_less.false);
      slope = le_refl c.in-Some.line.slope;
    }
