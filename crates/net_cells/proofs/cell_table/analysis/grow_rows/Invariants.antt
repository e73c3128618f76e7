use Rattle.std.proofs.Common.{◌≡◌, ℕ, length}
use Rattle.net_cells.specs.cell_table.Rows.{entry}
use Rattle.net_cells.proofs.cell_table.analysis.grow_rows.Given as goal

abbrev pub invariant-loop-number : goal.invariant-loop-number
invariant-loop-number g l = record {
  same : (i k : ℕ) → entry l.rows.items i k ≡ entry l.initial.rows.items i k;
  room : length l.rows.items ≡ l._number;
}
