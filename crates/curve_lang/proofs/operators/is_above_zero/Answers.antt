use Rattle.std.proofs.Common.{sym, subst}
use Rattle.std.specs.Prelude.{IsTrue, ◌↔◌}
use Rattle.rational.specs.Rational.{◌<ℚ◌}
use Rattle.rational.specs.Extended.{◌<ₑ◌}
use Rattle.rational.specs.declared.Extended.TheVariants.{Fin}
use Rattle.min_plus.specs.Functions.{zero_q}
use Rattle.curve_lang.proofs.operators.is_above_zero.Goals as goal

pub returns-in-Fin : goal.returns-in-Fin
returns-in-Fin c =
    subst (λ v. IsTrue c.is_less.result ↔ (Fin zero_q <ₑ v)) (sym c.in-Fin.is)
    (subst (λ z. IsTrue c.is_less.result ↔ (z <ℚ c.in-Fin.number)) c.zero.ensures c.is_less.ensures.less)
