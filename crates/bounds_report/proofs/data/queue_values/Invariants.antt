use Rattle.std.proofs.Common.{◌≡◌, map, take}
use Rattle.serde_json.specs.View.{view}
use Rattle.bounds_report.specs.Data.{queue_data}
use Rattle.bounds_report.proofs.data.queue_values.Given as goal

abbrev pub invariant-loop-place : goal.invariant-loop-place
invariant-loop-place l = map view l.values.items ≡ map queue_data (take l.place l.rows)
