use Rattle.std.proofs.Common.{List, IfOk, sum_by, ◌∙◌, refl, subst}
use Rattle.outcomes.specs.Stages.{IsEqual}
use Rattle.outcomes.specs.Spending.{Spends}
use Rattle.outcomes.proofs.Spending.{spends_stopped}
use Rattle.net_cells.specs.declared.cell.Cell.{Cell}
use Rattle.net_cells.specs.cell_table.Rows.{held}
use Rattle.net_cells.specs.declared.cell_table.fault.AnalysisFault.TheVariants.{NoMemory}
use Rattle.net_cells.specs.Work.{work}
use Rattle.cell_eval.specs.flow_analysis.Analyses.{IsAnalysisOf}
use Rattle.net_cells.specs.MemoryEnds.{MemoryEnds, at_none}
use Rattle.cell_eval.proofs.flow_analysis.in_order.analysed_in_order.Goals as goal

pub returns-in-Ok-clause-table : goal.returns-in-Ok-clause-table
returns-in-Ok-clause-table g c =
    subst
    (λ (xs : List Cell). IfOk c.analysed.result (λ t. IsAnalysisOf c.args.net.now xs (held g.V.CellValue.meaning t.rows.items)))
    (c.deref.ensures.value ∙ c.in-Ok.ensures) c.analysed.ensures.table

pub returns-in-Ok-clause-spends : goal.returns-in-Ok-clause-spends
returns-in-Ok-clause-spends g c =
    subst
    (λ (xs : List Cell). Spends g.E.Evaluator.count g.E.Evaluator.counter (IsEqual (sum_by (work c.args.net.now) xs)) NoMemory
    (MemoryEnds c.args.net.now xs) c.args.eval.now c.analysed.new.eval c.analysed.result)
    (c.deref.ensures.value ∙ c.in-Ok.ensures) c.analysed.ensures.spends

pub returns-in-Err-clause-spends : goal.returns-in-Err-clause-spends
returns-in-Err-clause-spends g c = spends_stopped _ NoMemory refl (λ lack n none. at_none none)
