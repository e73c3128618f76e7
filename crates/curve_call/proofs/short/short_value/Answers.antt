use Rattle.std.proofs.Common.{sym, subst}
use Rattle.rational.specs.Ratio.{SumFits}
use Rattle.curve_call.proofs.ShortSteps.{product_fits, sum_fits}
use Rattle.curve_call.proofs.short.short_value.Goals as goal

pub product-requires : goal.product-requires
product-requires c = product_fits c.args.line.now.slope c.args.x (c.is_short-then-is_short.ensures c.if-is_short-2.true) (c.is_short-then-is_short-2.ensures c.if-is_short-3.true)

pub sum-requires : goal.sum-requires
sum-requires c =
    subst (SumFits c.args.line.now.icept) (sym c.product.ensures)
    (sum_fits c.args.line.now.icept c.args.line.now.slope c.args.x (c.is_short.ensures c.if-is_short.true) (c.is_short-then-is_short.ensures c.if-is_short-2.true)
    (c.is_short-then-is_short-2.ensures c.if-is_short-3.true))
