use Rattle.std.proofs.Common.{◌≡◌, ◌++◌, map}
use Rattle.std.specs.List.{filter, range_with_len}
use Rattle.net_cells.specs.Cells.{cell_of, has_cell}
use Rattle.cell_rules.proofs.of_number.push_kind.Given as goal

abbrev pub invariant-loop-b : goal.invariant-loop-b
invariant-loop-b l =
    l.cells.items ≡ l.initial.cells.items ++ filter (has_cell l.net) (map (cell_of l.kind l.number) (range_with_len 0 l.b))
