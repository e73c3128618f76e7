use Rattle.std.proofs.Common.{◌≡◌, ◌+◌, sum_by, take}
use Rattle.net_cells.specs.Work.{work}
use Rattle.cell_rules.specs.cell_values.Placed.{placed}
use Rattle.cell_rules.specs.cell_values.Edits.{IsEditOf, SameButAt}
use Rattle.cell_rules.proofs.cell_values.Fronts.{Reached}
use Rattle.cell_rules.proofs.cell_values.anew.made_anew.Given as goal

abbrev pub invariant-loop-cell : goal.invariant-loop-cell
invariant-loop-cell g l = record {
  reached : (edit : IsEditOf l.net l.touched (placed g.V.CellValue.meaning l.fn.values.versions.newest)) →
      Reached edit.old l.net edit.order (placed g.V.CellValue.meaning l.values.versions.newest) l.touched l.cell-index;
  others : SameButAt l.touched (placed g.V.CellValue.meaning l.fn.values.versions.newest) (placed g.V.CellValue.meaning l.values.versions.newest);
  before : l.values.versions.kept ≡ l.fn.values.versions.kept;
  cost : g.E.Evaluator.count l.eval ≡ g.E.Evaluator.count l.fn.eval + sum_by (work l.net) (take l.cell-index l.touched);
  same : g.E.Evaluator.counter l.eval ≡ g.E.Evaluator.counter l.fn.eval;
}
