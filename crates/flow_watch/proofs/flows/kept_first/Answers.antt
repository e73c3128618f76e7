use Rattle.upp_curve.specs.Curve.{value_at}
use Rattle.flow_watch.proofs.StairPaces.{seen_none}
use Rattle.flow_watch.proofs.flows.kept_first.Goals as goal

pub returns-then-pieces-entries : goal.returns-then-pieces-entries
returns-then-pieces-entries c = seen_none (value_at c.args.arrival.now) c.args.entries.now c.kept_upto.result c.unwrap_or.result c.kept_upto.ensures c.unwrap_or.ensures
