use Rattle.std.proofs.Common.{sym, subst}
use Rattle.rational.specs.Extended.{◌≤ₑ◌, ◌+ₑ◌}
use Rattle.rational.specs.declared.Extended.TheVariants.{Fin}
use Rattle.rational.proofs.Laws.{le_refl}
use Rattle.curve_conv.proofs.rises.above.Goals as goal

pub returns-in-Inf : goal.returns-in-Inf
returns-in-Inf c = (le_refl c.args.most, subst (λ v. c.args.b ≤ₑ v +ₑ Fin c.args.most) (sym c.in-Inf.is) tt)
