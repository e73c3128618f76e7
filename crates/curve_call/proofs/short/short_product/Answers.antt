use Rattle.curve_call.proofs.ShortSteps.{product_fits}
use Rattle.curve_call.proofs.short.short_product.Goals as goal

pub product-requires : goal.product-requires
product-requires c = product_fits c.args.x c.args.y (c.is_short.ensures c.if-is_short.true) (c.is_short-then-is_short.ensures c.if-is_short-2.true)
