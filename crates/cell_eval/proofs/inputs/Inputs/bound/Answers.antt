use Rattle.net_cells.specs.Cells.{cell_of}
use Rattle.outcomes.proofs.Spending.{counts_none}
use Rattle.cell_eval.proofs.Arms.{bound_tfa, bound_sfa}
use Rattle.net_cells.specs.declared.cell.Kind.TheVariants.{Bound}
use Rattle.net_cells.specs.CellFormulas.{formula}
use Rattle.cell_eval.proofs.Stopping.{none_stops}
use Rattle.cell_eval.proofs.inputs.Inputs.bound.Goals as goal

pub bound_of-requires-clause-total : goal.bound_of-requires-clause-total
bound_of-requires-clause-total g c = bound_tfa c.args.self.now.net.now (g.T.Table.at c.args.self.now.table.now) c.args.flow c.requires

pub bound_of-requires-clause-separate : goal.bound_of-requires-clause-separate
bound_of-requires-clause-separate g c = bound_sfa c.args.self.now.net.now (g.T.Table.at c.args.self.now.table.now) c.args.flow c.requires

pub returns : goal.returns
returns g c = λ n. record {
  answer = c.bound_of.ensures;
  counts = counts_none n _;
  memory = λ is. none_stops (g.T.Table.at c.args.self.now.table.now) (formula c.args.self.now.net.now (cell_of Bound c.args.flow 0)) n;
}
