use Rattle.std.proofs.Common.{◌≡◌, ◌+◌, sum_by, take}
use Rattle.net_cells.specs.FirstOver.{AnswersAll}
use Rattle.net_cells.specs.Work.{work}
use Rattle.net_cells.specs.cell_table.Rows.{held}
use Rattle.cell_eval.specs.flow_analysis.Analyses.{HasNothingElse}
use Rattle.cell_eval.proofs.flow_analysis.each_cell.analysed.Given as goal

abbrev pub invariant-loop-cell : goal.invariant-loop-cell
invariant-loop-cell g l = record {
  answers : AnswersAll l.net (held g.V.CellValue.meaning l.table.rows.items) (take l.cell-index l.cells);
  nothing : HasNothingElse (held g.V.CellValue.meaning l.table.rows.items) (take l.cell-index l.cells);
  cost : g.E.Evaluator.count l.eval ≡ g.E.Evaluator.count l.fn.eval + sum_by (work l.net) (take l.cell-index l.cells);
  same : g.E.Evaluator.counter l.eval ≡ g.E.Evaluator.counter l.fn.eval;
}
