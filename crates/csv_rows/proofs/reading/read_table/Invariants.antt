use Rattle.std.proofs.Common.{map, length, ◌++◌}
use Rattle.csv_rows.specs.Coming.{Stands, rows_of}
use Rattle.csv_rows.specs.Rows.{AreLinedRowsOf, lined_of}
use Rattle.csv_rows.proofs.reading.read_table.Given as goal

abbrev pub invariant-loop-row : goal.invariant-loop-row
invariant-loop-row l = record {
  stands : Stands l.reader;
  rows : AreLinedRowsOf l.fn.text (map lined_of l.rows.items ++ rows_of l.reader);
}

abbrev pub decreases-loop-row : goal.decreases-loop-row
decreases-loop-row l = length (rows_of l.reader)
