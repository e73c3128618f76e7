use Rattle.outcomes.proofs.Spending.{counts_all}
use Rattle.cell_eval.proofs.Arms.{out_shifted, out_spread}
use Rattle.std.proofs.Common.{subst}
use Rattle.upp_limits.specs.declared.op_kind.OpKind.TheVariants.{Min}
use Rattle.net_cells.specs.declared.cell.Kind.TheVariants.{ShiftOut, DeconvOut, Out}
use Rattle.net_cells.specs.Cells.{cell_of}
use Rattle.net_cells.specs.Formulas.{value_of, made}
use Rattle.net_cells.specs.CellFormulas.{formula}
use Rattle.net_cells.specs.Answers.{Answers}
use Rattle.net_cells.proofs.OneOperator.{made_stops}
use Rattle.cell_eval.proofs.Stopping.{one_stops}
use Rattle.cell_eval.proofs.inputs.Inputs.leaving.Goals as goal

pub lesser-requires-clause-first : goal.lesser-requires-clause-first
lesser-requires-clause-first g c = out_shifted c.args.self.now.net.now (g.T.Table.at c.args.self.now.table.now) c.args.flow c.args.hop c.requires

pub lesser-requires-clause-second : goal.lesser-requires-clause-second
lesser-requires-clause-second g c = out_spread c.args.self.now.net.now (g.T.Table.at c.args.self.now.table.now) c.args.flow c.args.hop c.requires

pub returns : goal.returns
returns g c = record {
  answer = c.lesser.ensures.answer;
  counts = counts_all 1 c.args.steps.now _ _ c.lesser.ensures.count;
  memory = λ is. let at = g.T.Table.at c.args.self.now.table.now in
      let first = cell_of ShiftOut c.args.flow c.args.hop in
      let second = cell_of DeconvOut c.args.flow c.args.hop in
      one_stops at (formula c.args.self.now.net.now (cell_of Out c.args.flow c.args.hop)) c.args.steps.now c.lesser.new.steps c.lesser.ensures.count
      (made_stops at Min first second (subst (λ r. Answers at (made Min (value_of first) (value_of second)) r) is c.lesser.ensures.answer));
}
