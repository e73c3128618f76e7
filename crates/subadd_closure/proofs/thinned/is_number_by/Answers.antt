use Rattle.std.proofs.Common.{sym, subst}
use Rattle.rational.specs.Extended.{◌≤ₑ◌}
use Rattle.rational.specs.declared.Extended.TheVariants.{Fin}
use Rattle.subadd_closure.proofs.thinned.is_number_by.Goals as goal

pub returns-in-Fin : goal.returns-in-Fin
returns-in-Fin c h = subst (λ z. z ≤ₑ Fin c.args.top) (sym c.in-Fin.is) (c.is_at_most.ensures h)
