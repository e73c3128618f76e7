use Rattle.std.proofs.Common.{◌≡◌, take}
use Rattle.std.specs.Prelude.{not}
use Rattle.std.specs.List.{filter}
use Rattle.net_cells.specs.declared.cell.Cell.{Cell}
use Rattle.net_cells.specs.Cells.{has_cell}
use Rattle.cell_rules.proofs.finding.gone_cells.Given as goal

abbrev pub invariant-loop-cell : goal.invariant-loop-cell
invariant-loop-cell l = l.gone.items ≡ filter (λ (d : Cell). not (has_cell l.net d)) (take l.cell-index l.cells)
