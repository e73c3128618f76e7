use Rattle.upp_limits.specs.Gauges.{gauge_over}
use Rattle.upp_limits.proofs.limits.gauge_over.Goals as goal

pub returns-in-Some : goal.returns-in-Some
unfolding gauge_over
returns-in-Some c = c.in-Some.ensures.gauge
