use Rattle.std.proofs.Common.{◌≡◌, ℕ, length, get_or}
use Rattle.std.specs.Prelude.{None}
use Rattle.net_cells.proofs.cell_table.analysis.grow_row.Given as goal

abbrev pub invariant-loop-number : goal.invariant-loop-number
invariant-loop-number g l = record {
  same : (k : ℕ) → get_or l.row.items k None ≡ get_or l.initial.row.items k None;
  room : length l.row.items ≡ l._number;
}
