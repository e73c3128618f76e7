use Rattle.std.proofs.Common.{◌≡◌, ◌++◌, take}
use Rattle.std.specs.List.{flat_map}
use Rattle.cell_rules.specs.Finding.{kind_cells_of}
use Rattle.cell_rules.proofs.of_number.push_kinds.Given as goal

abbrev pub invariant-loop-kind : goal.invariant-loop-kind
invariant-loop-kind l =
    l.cells.items ≡ l.initial.cells.items ++ flat_map (kind_cells_of l.net l.number) (take l.kind-index l.kinds)
