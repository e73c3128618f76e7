use Rattle.std.proofs.Common.{◌≡◌, length}
use Rattle.csv_rows.specs.Coming.{Stands, all_of}
use Rattle.csv_rows.specs.Rows.{used}
use Rattle.csv_rows.proofs.reading.TableRows.next_row.Given as goal

abbrev pub invariant-loop-row : goal.invariant-loop-row
invariant-loop-row l = record {
  stands : Stands l.self;
  rows : used (all_of l.fn.self) ≡ used (all_of l.self);
}

abbrev pub decreases-loop-row : goal.decreases-loop-row
decreases-loop-row l = length (all_of l.self)
