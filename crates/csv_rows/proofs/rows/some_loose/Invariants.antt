use Rattle.std.proofs.Common.{◌≡◌, map, take}
use Rattle.csv.specs.Records.{fields_of, trimmed}
use Rattle.csv_rows.proofs.rows.some_loose.Given as goal

abbrev pub invariant-loop-place : goal.invariant-loop-place
invariant-loop-place l = map trimmed (take l.place (fields_of l.row)) ≡ take l.place (fields_of l.row)
