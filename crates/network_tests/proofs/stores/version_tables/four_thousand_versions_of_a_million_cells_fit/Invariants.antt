use Rattle.std.proofs.Common.{◌≡◌, [], length}
use Rattle.network_tests.proofs.stores.version_tables.four_thousand_versions_of_a_million_cells_fit.Given as goal

abbrev pub invariant-loop-cell : goal.invariant-loop-cell
invariant-loop-cell g l = record { cells : l.table.cells ≡ l.cells; none : l.table.kept ≡ [] }

abbrev pub invariant-loop-k : goal.invariant-loop-k
invariant-loop-k g l = record { cells : l.table.cells ≡ l.cells; kept : length l.table.kept ≡ l.k }

abbrev pub invariant-loop : goal.invariant-loop
invariant-loop g l = record { cells : l.table.cells ≡ l.cells }
