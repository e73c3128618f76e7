use Rattle.std.proofs.Common.{subst}
use Rattle.simulator.specs.run_measures.Gauges.{Gains}
use Rattle.simulator.proofs.run_measures.gauges.arrive.Goals as goal

pub returns : goal.returns
returns c = record {
  gauge = c.gained.result;
  changed = subst (λ g. Gains g c.gained.result c.args.bits c.args.time) c.gauge_at-gauge.ensures c.gained.ensures;
  rows = c.put.ensures;
}
