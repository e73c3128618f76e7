use Rattle.std.proofs.Common.{◌≡◌, map, take}
use Rattle.simulator.specs.run_measures.Gauges.{peak_of}
use Rattle.simulator.specs.run_measures.Peaks.{rows_of}
use Rattle.simulator.proofs.run_measures.gauges.peaks_of.Given as goal

abbrev pub invariant-loop-row : goal.invariant-loop-row
invariant-loop-row l = rows_of l.peaks.items ≡ map (λ row. map peak_of row.items) (take l.row-index l.rows)
