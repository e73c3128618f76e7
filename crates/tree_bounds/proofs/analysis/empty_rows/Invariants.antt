use Rattle.std.proofs.Common.{◌≡◌, length}
use Rattle.tree_bounds.proofs.analysis.empty_rows.Given as goal

abbrev pub invariant-loop-port : goal.invariant-loop-port
invariant-loop-port l = length l.rows.items ≡ l._port
