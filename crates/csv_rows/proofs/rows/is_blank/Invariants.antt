use Rattle.std.proofs.Common.{◌≡◌, drop}
use Rattle.csv.specs.Records.{fields_of}
use Rattle.csv_rows.specs.Rows.{is_blank}
use Rattle.csv_rows.proofs.rows.is_blank.Given as goal

abbrev pub invariant-loop-place : goal.invariant-loop-place
invariant-loop-place l = is_blank (fields_of l.row) ≡ is_blank (drop l.place (fields_of l.row))
