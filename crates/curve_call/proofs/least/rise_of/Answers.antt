use Rattle.std.proofs.Common.{sym, subst, ◌∙◌}
use Rattle.rational.specs.Ratio.{IsSmall}
use Rattle.curve_call.proofs.RateRises.{rate_rise, rate_none}
use Rattle.curve_call.proofs.least.rise_of.Goals as goal

pub product-requires : goal.product-requires
product-requires c = subst IsSmall (sym (rate_rise c.args.c.now c.args.d c.in-Fin.rate (sym c.in-Fin.ensures))) c.requires

pub returns-in-Inf : goal.returns-in-Inf
returns-in-Inf c = c.zero.ensures ∙ rate_none c.args.c.now c.args.d (sym c.in-Inf.ensures)

pub returns-in-Fin : goal.returns-in-Fin
returns-in-Fin c = c.product.ensures ∙ rate_rise c.args.c.now c.args.d c.in-Fin.rate (sym c.in-Fin.ensures)
