use Rattle.std.proofs.Common.{◌∙◌, map}
use Rattle.simulator.specs.run_measures.Gauges.{peak_of}
use Rattle.simulator.proofs.run_measures.LevelEnds.{mapped_all, mapped_twice}
use Rattle.simulator.proofs.run_measures.gauges.peaks_of.Goals as goal

pub returns : goal.returns
returns c =
    c.loop-row.invariant ∙ mapped_all (λ row. map peak_of row.items) c.args.rows.now c.loop-row.row-index c.loop-row.auto.row-index-end c.loop-row-test.false
    ∙ mapped_twice (map peak_of) (λ row. row.items) c.args.rows.now
