use Rattle.outcomes.proofs.Spending.{counts_all}
use Rattle.cell_eval.proofs.Arms.{shift_comes, shift_by}
use Rattle.std.proofs.Common.{subst}
use Rattle.net_cells.specs.declared.cell.Kind.TheVariants.{In, HopDelay, ShiftOut}
use Rattle.net_cells.specs.Cells.{cell_of}
use Rattle.net_cells.specs.Formulas.{value_of, moved}
use Rattle.net_cells.specs.CellFormulas.{formula}
use Rattle.net_cells.specs.Answers.{Answers}
use Rattle.net_cells.proofs.OneOperator.{moved_stops}
use Rattle.cell_eval.proofs.Stopping.{one_stops}
use Rattle.cell_eval.proofs.inputs.Inputs.shift_out.Goals as goal

pub later-requires-clause-curve : goal.later-requires-clause-curve
later-requires-clause-curve g c = shift_comes c.args.self.now.net.now (g.T.Table.at c.args.self.now.table.now) c.args.flow c.args.hop c.requires

pub later-requires-clause-ahead : goal.later-requires-clause-ahead
later-requires-clause-ahead g c = shift_by c.args.self.now.net.now (g.T.Table.at c.args.self.now.table.now) c.args.flow c.args.hop c.requires

pub returns : goal.returns
returns g c = record {
  answer = c.later.ensures.answer;
  counts = counts_all 1 c.args.steps.now _ _ c.later.ensures.count;
  memory = λ is. let at = g.T.Table.at c.args.self.now.table.now in
      let from = cell_of In c.args.flow c.args.hop in
      let by = cell_of HopDelay c.args.flow c.args.hop in
      one_stops at (formula c.args.self.now.net.now (cell_of ShiftOut c.args.flow c.args.hop)) c.args.steps.now c.later.new.steps c.later.ensures.count
      (moved_stops at from by (subst (λ r. Answers at (moved (value_of from) (value_of by)) r) is c.later.ensures.answer));
}
