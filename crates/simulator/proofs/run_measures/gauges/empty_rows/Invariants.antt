use Rattle.std.proofs.Common.{◌≡◌, map, take}
use Rattle.net_model.specs.Views.{server_of}
use Rattle.simulator.specs.run_measures.Gauges.{gauges_of, empty_row_of}
use Rattle.simulator.proofs.run_measures.gauges.empty_rows.Given as goal

abbrev pub invariant-loop-server : goal.invariant-loop-server
invariant-loop-server l = gauges_of l.rows.items ≡ map (λ s. empty_row_of (server_of s)) (take l.server-index l.server-items)
