use Rattle.std.proofs.Common.{◌≡◌, ◌++◌, map}
use Rattle.std.specs.List.{range_with_len}
use Rattle.net_cells.specs.Cells.{cell_of}
use Rattle.net_cells.proofs.order.push_numbers.Given as goal

abbrev pub invariant-loop-b : goal.invariant-loop-b
invariant-loop-b l = l.cells.items ≡ l.initial.cells.items ++ map (cell_of l.kind l.a) (range_with_len 0 l.b)
