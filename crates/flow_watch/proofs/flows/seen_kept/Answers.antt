use Rattle.upp_curve.specs.Curve.{value_at}
use Rattle.flow_watch.proofs.StairPaces.{seen_none}
use Rattle.flow_watch.proofs.flows.seen_kept.Goals as goal

pub more-seen-requires-clause-b : goal.more-seen-requires-clause-b
more-seen-requires-clause-b c = seen_none (value_at c.args.arrival.now) c.args.entries.now c.kept_upto.result c.unwrap_or-by_stair.result c.kept_upto.ensures c.unwrap_or-by_stair.ensures

pub more-requires-clause-b : goal.more-requires-clause-b
more-requires-clause-b c = seen_none (value_at c.args.arrival.now) c.args.entries.now c.repeated_upto.result c.unwrap_or-repeated.result c.repeated_upto.ensures c.unwrap_or-repeated.ensures
