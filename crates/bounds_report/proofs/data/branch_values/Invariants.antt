use Rattle.std.proofs.Common.{◌≡◌, map, take}
use Rattle.serde_json.specs.View.{view}
use Rattle.bounds_report.specs.Data.{branch_data}
use Rattle.bounds_report.proofs.data.branch_values.Given as goal

abbrev pub invariant-loop-place : goal.invariant-loop-place
invariant-loop-place l = map view l.values.items ≡ map branch_data (take l.place l.rows)
