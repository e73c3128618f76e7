use Rattle.std.proofs.Common.{sym, ◌∙◌}
use Rattle.plain_operators.proofs.pointwise.leaning.rate_of.Goals as goal

pub returns-in-Fin : goal.returns-in-Fin
returns-in-Fin c = sym c.own_rate.ensures ∙ c.in-Fin.is
