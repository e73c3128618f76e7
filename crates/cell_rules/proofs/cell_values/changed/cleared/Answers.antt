use Rattle.std.proofs.Common.{◌∙◌, arith}
use Rattle.cell_rules.specs.cell_values.Placed.{placed}
use Rattle.cell_rules.proofs.cell_values.Cleared.{cleared_more}
use Rattle.cell_rules.proofs.cell_values.changed.cleared.Goals as goal

pub loop-cell-preserved : goal.loop-cell-preserved
loop-cell-preserved g c =
    let meaning = g.V.CellValue.meaning in
    record {
      cleared = cleared_more c.args.gone.now c.loop-cell.cell-index (placed meaning c.args.values.now.versions.newest)
          (placed meaning c.loop-cell.values.versions.newest) (placed meaning c.clear.new.self.versions.newest) (omega arith)
          c.loop-cell.invariant.cleared c.in_ok-clear.ensures.cleared c.in_ok-clear.ensures.still c.in_ok-clear.ensures.others;
      before = c.clear.ensures.before ∙ c.loop-cell.invariant.before;
    }
