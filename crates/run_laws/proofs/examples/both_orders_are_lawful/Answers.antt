use Rattle.run_laws.proofs.examples.both_orders_are_lawful.Goals as goal
use Rattle.run_laws.proofs.SmallRuns

pub returns : goal.returns
returns c = SmallRuns.both_orders
