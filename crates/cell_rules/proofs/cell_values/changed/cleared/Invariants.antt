use Rattle.std.proofs.Common.{◌≡◌, take}
use Rattle.cell_rules.specs.cell_values.Placed.{placed}
use Rattle.cell_rules.specs.cell_values.Edits.{IsCleared}
use Rattle.cell_rules.proofs.cell_values.changed.cleared.Given as goal

abbrev pub invariant-loop-cell : goal.invariant-loop-cell
invariant-loop-cell g l = record {
  cleared : IsCleared (take l.cell-index l.gone) (placed g.V.CellValue.meaning l.fn.values.versions.newest) (placed g.V.CellValue.meaning l.values.versions.newest);
  before : l.values.versions.kept ≡ l.fn.values.versions.kept;
}
