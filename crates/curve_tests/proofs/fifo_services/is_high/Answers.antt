use Rattle.std.proofs.Common.{subst, sym}
use Rattle.rational.specs.Rational.{◌≤ℚ◌}
use Rattle.rational.specs.Extended.{◌≤ₑ◌}
use Rattle.rational.specs.declared.Extended.TheVariants.{Fin}
use Rattle.rational.proofs.Compared.{not_less}
use Rattle.min_plus.specs.Functions.{zero_q}
use Rattle.curve_tests.proofs.fifo_services.is_high.Goals as goal

pub returns-in_default : goal.returns-in_default
returns-in_default c = λ h.
    let above = not_less c.cmp.result c.cmp.ensures.ranks c.in_default.not-Less in
    let low = subst (λ z. z ≤ℚ c.in-Fin.x) c.zero.ensures above in
    subst (λ v. Fin zero_q ≤ₑ v) (sym c.in-Fin.is) low
