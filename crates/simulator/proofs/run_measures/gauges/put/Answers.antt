use Rattle.std.proofs.Common.{Vec, Global, sym, ap, set, length, arith, ◌<◌}
use Rattle.std.proofs.lemmas.List.{length-map}
use Rattle.simulator.specs.declared.run_measures.gauge.Gauge.{Gauge}
use Rattle.simulator.proofs.run_measures.GaugeRows.{put_is}
use Rattle.simulator.proofs.run_measures.gauges.put.Goals as goal

pub returns : goal.returns
returns c =
    let lists = length-map c.args.rows.now (λ v. v.items) in
    let has = c.requires.server in
    let known : c.args.server < length c.args.rows.now = omega (arith, lists, has) in
    put_is c.args.rows.now c.args.server c.args.queue c.index-rows-server.result _ c.args.gauge known c.index-rows-server.is
    (ap (λ (v : Vec Gauge Global). set v.items c.args.queue c.args.gauge) (sym c.index-rows-server.is))
