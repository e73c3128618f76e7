use Rattle.std.proofs.Common.{subst}
use Rattle.simulator.specs.run_measures.Gauges.{Loses}
use Rattle.simulator.proofs.run_measures.gauges.leave.Goals as goal

pub returns : goal.returns
returns c = record {
  gauge = c.lost.result;
  changed = subst (λ g. Loses g c.lost.result c.args.bits c.args.time) c.gauge_at-gauge.ensures c.lost.ensures;
  rows = c.put.ensures;
}
