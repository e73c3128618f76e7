use Rattle.std.proofs.Common.{sym, subst}
use Rattle.rational.specs.Rational.{◌+ℚ◌, ◌*ℚ◌}
use Rattle.rational.specs.Extended.{◌≤ₑ◌}
use Rattle.rational.specs.declared.Extended.TheVariants.{Fin}
use Rattle.rational.proofs.Laws.{le_refl}
use Rattle.plain_operators.proofs.pointwise.leaning.lower.Goals as goal

pub returns-in-Inf : goal.returns-in-Inf
returns-in-Inf c = (le_refl c.args.icept, subst (λ v. Fin (c.args.icept +ℚ c.args.rate *ℚ c.args.t) ≤ₑ v) (sym c.in-Inf.is) tt)
