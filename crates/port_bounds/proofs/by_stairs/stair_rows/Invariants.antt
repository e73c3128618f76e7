use Rattle.std.proofs.Common.{◌≡◌, ◌<◌, ℕ, length, get_or, None}
use Rattle.port_bounds.specs.StairsIncoming.{stairs_in}
use Rattle.port_bounds.specs.StairRows.{IsStairRow}
use Rattle.port_bounds.proofs.by_stairs.stair_rows.Given as goal

abbrev pub invariant-loop-q : goal.invariant-loop-q
invariant-loop-q l = record {
  count : length l.rows.items ≡ l.q;
  each : (i : ℕ) → i < l.q → IsStairRow l.port (stairs_in l.queues) i (get_or l.rows.items i None);
}
